use Rattle.std.proofs.Common.{◌≡◌, map, length, ap, ◌∙◌, arith}
use lib.ListN.{length-map}
use Rattle.std.proofs.lemmas.Result.{IfOk-weaker}
use Rattle.lines.specs.Text.{lines_of}
use Rattle.console.proofs.Outputs.{lines_few, whole_output}
use Rattle.console.proofs.session.run.Goals as goal

pub answer_all-requires : goal.answer_all-requires
answer_all-requires c =
    let lines = c.as_slice.result.now in
    let all : map (λ x. x.now) lines ≡ lines_of c.args.input.now = ap (map (λ x. x.now)) c.as_slice.ensures.value ∙ c.in_ok-lines.ensures in
    omega (arith, length-map lines (λ x. x.now), ap length all, lines_few c.args.input.now)

pub returns : goal.returns
returns c =
    IfOk-weaker c.answer_all.result _ _
    (λ out e. e ∙ whole_output c.args.input.now (map (λ x. x.now) c.as_slice.result.now) (omega arith) (ap (map (λ x. x.now)) c.as_slice.ensures.value ∙ c.in_ok-lines.ensures))
    c.answer_all.ensures
