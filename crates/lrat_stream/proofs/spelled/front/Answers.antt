use Rattle.lrat_stream.proofs.SpelledLaws.{front_words}
use Rattle.lrat_stream.proofs.spelled.front.Goals as goal

pub returns : goal.returns
returns c =
    let found = c.in_ok-number.ensures in
    front_words c.args.text.now c.split_at.result.0.now c.split_at.result.1.now c.behind_blank.result.now c.in_ok-number.len found.some found.within found.solid c.split_at.ensures.front c.split_at.ensures.back c.behind_blank.ensures found.ends
