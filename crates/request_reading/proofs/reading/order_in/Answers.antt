use Rattle.cli_words.specs.Words.{order_of}
use Rattle.request_reading.specs.Answers.{words_of}
use Rattle.request_reading.proofs.Readings.{words_refused}
use Rattle.request_reading.proofs.reading.order_in.Goals as goal

pub returns-in_ok-refuse_words-in-Err-clause-err : goal.returns-in_ok-refuse_words-in-Err-clause-err
returns-in_ok-refuse_words-in-Err-clause-err c = words_refused (order_of (words_of c.args.words.now)) c.in-Err.fault c.in_ok-refuse_words-in-Err.field-0 c.in-Err.ensures.err c.in_ok-refuse_words-in-Err.ensures.says
