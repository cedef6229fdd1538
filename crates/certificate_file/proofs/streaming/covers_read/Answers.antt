use Rattle.std.proofs.Common.{List, [], sym, ◌∙◌, ap}
use Rattle.lrat_model.specs.Literal.{Literal}
use Rattle.lrat_stream.specs.Ahead.{ahead_at}
use Rattle.lrat_stream.specs.declared.words.Stage.{Stage}
use Rattle.reach_kinds.specs.Bodies.{is_covered}
use Rattle.certificate_file.specs.Streamed.{covers_read}
use Rattle.reach_kinds.proofs.CoverLaws.{is-covered}
use Rattle.certificate_file.proofs.streaming.covers_read.Goals as goal

pub returns-in-Added : goal.returns-in-Added
returns-in-Added c = λ rule vars database now.
    let held = c.args.checker.now.database.held in
    let words = c.args.words.now in
    is-covered held c.in-Added.id c.deref.result.now c.covers.result c.covers.ensures
    ∙ ap (λ (ls : List Literal). is_covered held c.in-Added.id ls) c.deref.ensures.value
    ∙ ap (λ (st : Stage). covers_read held (ahead_at st rule vars database words.lits.items words.ids.items words.fault now [])) (sym c.in-Added.is)
