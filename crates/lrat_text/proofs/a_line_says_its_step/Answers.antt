use Rattle.lrat_text.proofs.BackLaws.{step_back, line_back}
use Rattle.lrat_text.proofs.SaysLaws.{line_says}
use Rattle.lrat_text.proofs.a_line_says_its_step.Goals as goal

pub returns : goal.returns
returns c = record {
  words = λ line step e. (line_says line step e).0;
  numbers = λ line step e. ((line_says line step e).1, (line_says line step e).2);
  read = line_back;
  read_back = step_back;
}
