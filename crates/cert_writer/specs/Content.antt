-- What a certificate says after its header.
use Rattle.std.specs.Prelude.{◌≡◌, ◌≤◌, ℕ, List, [], ◌∷◌, ◌++◌, length, All, codes}
use Rattle.fbas_model.specs.Names.{Name}
use Rattle.lrat_text.specs.Texts.{HasNumbers}
use Rattle.node_json.specs.Groups.{texts_of}
use Rattle.clause_encoder.specs.NameCounter.{counter_vars}
use Rattle.clause_encoder.specs.declared.limits.TheConstants.{MOST_VARS}
use Rattle.certificate_file.specs.declared.places.Header.{Header}
use Rattle.cert_writer.specs.Texts.{Text, joined, header_lines, pair_front, log_front, list_front, least_front, group_front}
use Rattle.cert_writer.specs.Listing.{CanBeLine}
use Rattle.cert_writer.specs.Grouping.{CanBeGroupLine}
use Rattle.cert_writer.specs.declared.content.Content.{Content}
use Rattle.cert_writer.specs.declared.content.Content.TheVariants.{Pair, Steps, Minimal, Least, OrgBlocking}

-- its lines up to the last, where these are the names of the part
abbrev pub content_front : List Name → Content → List Text
content_front names (Pair pair) = pair_front names pair.now
content_front names (Steps to log vars clauses) = log_front to vars clauses log.now
content_front names (Minimal sought kind journal) = list_front names sought kind journal.now
content_front names (Least size kind journal) = least_front names size kind journal.now
content_front names (OrgBlocking orgs groups kind journal) = group_front names (texts_of groups.now) orgs.now kind journal.now

-- it can be written where the part has n nodes: sets have their places, and numbers their lines
abbrev pub CanBeContent : ℕ → Content → Type 0
CanBeContent n (Pair pair) = (length pair.now.first ≡ n) × (length pair.now.second ≡ n)
CanBeContent n (Steps to log vars clauses) = All HasNumbers log.now
CanBeContent n (Minimal sought kind journal) = All (CanBeLine n) journal.now
CanBeContent n (Least size kind journal) = (counter_vars size ≤ MOST_VARS) × All (CanBeLine n) journal.now
CanBeContent n (OrgBlocking orgs groups kind journal) = All (CanBeGroupLine n (length groups.now)) journal.now

-- the whole certificate
abbrev pub content_text : List Name → List Name → List ℕ → Header → Content → Text
content_text names part digest h content = joined (header_lines names digest h ++ (content_front part content ++ codes "end" ∷ []))
