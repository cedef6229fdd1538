-- The edit that a line of a script says.
use Rattle.std.specs.Prelude.{ℕ, ◌==◌, ◌&&◌, List, [], ◌∷◌, map, Bool, false, Option, Some, None, option_map, option_and_then, codes, min, nat_le, nat_lt, length, ◌||◌, if◌then◌else◌}
use Rattle.std.specs.List.{list_all, slice_split}
use Rattle.std.specs.Char.{is_ascii_digit}
use Rattle.std.specs.Str.{bytes_eq}
use Rattle.std.specs.Str.Parse.{digits_value}
use Rattle.fbas_model.specs.Names.{Name, is_key}
use Rattle.whatif_session.specs.declared.numbers.TheConstants.{MOST_THRESHOLD, MOST_PLACE}
use Rattle.whatif_session.specs.Edits.{Edit, Threshold, Add, Drop, Declare, Retire}

-- ---- numbers and paths

-- decimal digits, of which the first is 0 only where it stands alone
abbrev pub is_number : List ℕ → Bool
is_number [] = false
is_number (first ∷ rest) = list_all is_ascii_digit (first ∷ rest) && (nat_lt 48 first || length (first ∷ rest) == 1)

-- a number up to the greatest threshold
abbrev pub threshold_in : List ℕ → Option ℕ
threshold_in word = if is_number word && nat_le (digits_value 10 word) MOST_THRESHOLD then Some (digits_value 10 word) else None

-- the place that a number says, or the greatest place where it says a greater one: no quorum set has as many inner sets
abbrev pub place_in : List ℕ → ℕ
place_in word = min (digits_value 10 word) MOST_PLACE

-- the places that words say, if all are numbers
abbrev pub places_after : List Name → Option (List ℕ)
places_after words = if list_all is_number words then Some (map place_in words) else None

-- the dot alone is the path of the node's own set; else a dot stands before each place
abbrev pub places_in : List Name → Option (List ℕ)
places_in ([] ∷ [] ∷ []) = Some []
places_in ([] ∷ place ∷ places) = places_after (place ∷ places)
places_in parts = None

-- the path that a word says
abbrev pub path_in : List ℕ → Option (List ℕ)
path_in word = places_in (slice_split (λ b. b == 46) word)

-- ---- words

-- a key
abbrev pub key_in : List ℕ → Option Name
key_in word = if is_key word then Some word else None

-- the node and the path to its quorum set that two words say
abbrev pub target_in : List ℕ → List ℕ → Option (Name × List ℕ)
target_in node path = option_and_then (λ key. option_map (λ places. (key, places)) (path_in path)) (key_in node)

-- the edit that these words say after the word of its kind: `threshold` KEY PATH NUMBER
abbrev pub threshold_edit : List Name → Option Edit
threshold_edit (node ∷ path ∷ number ∷ []) = option_and_then (λ target. option_map (Threshold target.0 target.1) (threshold_in number)) (target_in node path)
threshold_edit words = None

-- `add` KEY PATH KEY
abbrev pub add_edit : List Name → Option Edit
add_edit (node ∷ path ∷ name ∷ []) = option_and_then (λ target. option_map (Add target.0 target.1) (key_in name)) (target_in node path)
add_edit words = None

-- `drop` KEY PATH KEY
abbrev pub drop_edit : List Name → Option Edit
drop_edit (node ∷ path ∷ name ∷ []) = option_and_then (λ target. option_map (Drop target.0 target.1) (key_in name)) (target_in node path)
drop_edit words = None

-- `declare` KEY
abbrev pub declare_edit : List Name → Option Edit
declare_edit (node ∷ []) = option_map Declare (key_in node)
declare_edit words = None

-- `retire` KEY
abbrev pub retire_edit : List Name → Option Edit
retire_edit (node ∷ []) = option_map Retire (key_in node)
retire_edit words = None

abbrev pub edit_in : List Name → Option Edit
edit_in [] = None
edit_in (word ∷ words) =
    if bytes_eq word (codes "threshold") then threshold_edit words
    else if bytes_eq word (codes "add") then add_edit words
    else if bytes_eq word (codes "drop") then drop_edit words
    else if bytes_eq word (codes "declare") then declare_edit words
    else if bytes_eq word (codes "retire") then retire_edit words
    else None

-- the edit of a line, whose words stand between single spaces
unfoldable pub edit_of : List ℕ → Option Edit
edit_of line = edit_in (slice_split (λ b. b == 32) line)
