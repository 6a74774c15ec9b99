use Rattle.std.proofs.Common.{◌≡◌, ◌+◌, take, vec_items, sym, ap, ◌∙◌, subst, arith, rules}
use Rattle.std.proofs.lemmas.List.{take_all}
use Rattle.std.specs.BTreeMap.{get}
use Rattle.std.specs.Ordering.{nat_cmp}
use Rattle.drawlist.specs.Rows.{naming}
use Rattle.drawlist.specs.Surveys.{Surveys, known, noted, first_naming}
use Rattle.drawlist.proofs.Named.{first_more}
use Rattle.drawlist.proofs.Step.{names_of, length-names_of, names_more, surveys_none, line_more, some_none, room}
use Rattle.drawlist.proofs.survey.survey.Goals as goal

pub loop-i-init : goal.loop-i-init
loop-i-init c = record { so_far = search (rules, surveys_none c.args.reel); firsts = search rules }

pub count-requires : goal.count-requires
count-requires c =
    let long = length-names_of c.args.reel c.loop-i.i c.args.lines.now (omega arith) in room c.args.reel 18446744073709551614 _ _ c.loop-i.invariant.so_far.tally (omega arith) (omega arith)

pub loop-i-preserved : goal.loop-i-preserved
loop-i-preserved c =
    let N = c.args.reel in
    let i = c.loop-i.i in
    let row = naming c.read_row-row.result in
    let before = names_of N (take i c.args.lines.now) in
    let firsts : get nat_cmp c.loop-i.firsts ≡ (λ f. first_naming f before) = λ j f. c.loop-i.invariant.firsts f j in
    let long = sym (length-names_of N i c.args.lines.now (omega arith)) in
    let more = names_more N c.args.lines.now i _ row c.loop-i-test.true c.read_row-row.ensures in
    let step = line_more N c.args.lines.now i _ (vec_items c.loop-i.seen) _ _ _ _ c.loop-i-test.true c.loop-i.invariant.so_far c.read_row-row.ensures (c.in_ok-earlier.ensures.earlier ∙ ap (known row) firsts) (some_none _) c.count.ensures in
    record {
      so_far = subst (λ seen. Surveys N (names_of N (take (i + 1) c.args.lines.now)) seen c.count.new.self) (sym c.in_ok-push.ensures.items) step;
      firsts = λ f. c.in_ok-earlier.ensures.noted f ∙ (λ j. noted row (long j) (firsts j) f) ∙ first_more row before f ∙ ap (first_naming f) (sym more);
    }

pub returns : goal.returns
returns c = subst (λ ls. Surveys c.args.reel (names_of c.args.reel ls) (vec_items c.loop-i.seen) c.loop-i.tally) (take_all _ c.args.lines.now (omega arith)) c.loop-i.invariant.so_far
