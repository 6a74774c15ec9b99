use Rattle.std.proofs.Common.{◌++◌, length, string_bytes, ap, ◌∙◌, arith}
use Rattle.console.specs.Readings.{reply_of}
use Rattle.console.specs.Replies.{reply_text}
use Rattle.console.proofs.Turns.{one_turn}
use Rattle.console.proofs.session.answer_all.Goals as goal

pub loop-line-preserved : goal.loop-line-preserved
loop-line-preserved c =
    let out = string_bytes c.loop-line.out in
    let steps = c.in-Some.ensures.steps in
    let more = c.in_ok-push_reply.ensures ∙ ap (λ b. out ++ reply_text (reply_of c.answer-reply.result b)) c.as_slice.ensures.value in (
      omega (arith, ap length steps.1),
      one_turn _ _ _ out _ c.loop-line.invariant.1 _ _ _ _ _ _ steps.0.0 steps.0.1 steps.1 c.answer-reply.ensures more,
    )
