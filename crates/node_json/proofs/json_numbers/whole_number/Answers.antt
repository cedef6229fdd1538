use Rattle.std.proofs.Common.{◌≡◌, drop, get_or, true, false, ◌==◌, option_and_then, sym, ap, ◌∙◌}
use Rattle.fast_float.specs.Text.{scan}
use Rattle.serde_json.specs.Find.{as_u64}
use Rattle.serde_json.specs.Read.{number_of, number_from}
use Rattle.node_json.proofs.JsonNumbers.{no_whole-negative}
use Rattle.node_json.proofs.json_numbers.whole_number.Goals as goal

pub returns-then-has_minus : goal.returns-then-has_minus
unfolding number_of
returns-then-has_minus c =
    let s = c.as_bytes-bytes.result.now in
    let signed : (get_or s 0 0 == 45) ≡ true = sym c.if-has_minus.ensures.value in
    let read : number_from true (scan (drop 1 s)) ≡ number_of s = rw signed in
    sym (ap (option_and_then as_u64) (ap number_of (sym c.as_bytes-bytes.ensures.value) ∙ sym read) ∙ no_whole-negative (scan (drop 1 s)))

pub returns : goal.returns
unfolding number_of
returns c =
    let s = c.as_bytes-bytes.result.now in
    let unsigned : (get_or s 0 0 == 45) ≡ false = sym c.if-has_minus.ensures.value in
    let read : number_from false (scan s) ≡ number_of s = rw unsigned in
    c.unsigned_whole.ensures ∙ ap (option_and_then as_u64) (ap (number_from false) c.scan.ensures.parts ∙ read ∙ ap number_of c.as_bytes-bytes.ensures.value)
