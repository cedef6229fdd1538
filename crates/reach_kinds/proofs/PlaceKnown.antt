-- What is known at a place is known after its line.
use Rattle.std.proofs.Common.{◌≡◌, ℕ, List, Ok, subst, codes}
use Rattle.std.specs.Str.{bytes_eq}
use Rattle.fbas_model.specs.Nodes.{Table}
use Rattle.fbas_model.specs.Systems.{System}
use Rattle.cert_lines.specs.declared.faults.CertError.TheVariants.{BadLine}
use Rattle.reach_kinds.specs.PlaceLines.{reach_line}
use Rattle.reach_kinds.specs.Known.{IsReachPlace, IsReachState}
use Rattle.reach_kinds.specs.declared.places.ReachPlace.{ReachPlace}
use Rattle.reach_kinds.specs.declared.places.ReachPlace.TheVariants.{AtCounter, AtList, AtGroups, AtEnd}
use Rattle.reach_kinds.specs.declared.places.ReachState.{ReachState}
use Rattle.reach_kinds.specs.declared.places.ReachState.TheVariants.{Done}
use Rattle.reach_kinds.proofs.Results.{passed}
use Rattle.reach_kinds.proofs.ListKnown.{known_counter, known_list}
use Rattle.reach_kinds.proofs.GroupKnown.{known_over}

-- a line at its place
pub known_line : (f : System) (nodes gone : Table) (p : ReachPlace) (l : ℕ) (text : List ℕ) → IsReachPlace f nodes gone p → (state : ReachState) → reach_line f nodes p l text ≡ Ok state → IsReachState f nodes gone state
known_line f nodes gone (AtCounter kind p) l text is state e = known_counter f nodes gone kind p l text is state e
known_line f nodes gone (AtList k) l text is state e = known_list f nodes gone k l text is state e
known_line f nodes gone (AtGroups k) l text is state e = known_over f nodes gone k l text is state e
known_line f nodes gone (AtEnd r) l text is state e =
    let p = passed (BadLine l) (bytes_eq text (codes "end")) (Ok (Done r)) state e in
    let same : Done r ≡ state = (let q = p.1 in cc) in
    subst (IsReachState f nodes gone) same is
