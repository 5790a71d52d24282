-- `exports::answers::give_nine` meets its contract: nine words copied, and zeros behind them. Assumes nothing.
use native.Mathlib.Omega.{arith}
use Rattle.exports.specs.Answers.{nine_words}
use Rattle.exports.proofs.Writing.{filled_all}
use Rattle.exports.proofs.answers.give_nine.Goals as goal

pub returns : goal.returns
returns c =
    filled_all c.args.answer.now (nine_words c.args.found c.args.index c.args.kind c.args.start c.args.size) 9 (omega (arith, c.if-answer-lt9.false)) c.copy_from_slice.new.self c.fill-2.new.self c.copy_from_slice.ensures.after (c.fill-2.ensures.after (λ y h. h))
