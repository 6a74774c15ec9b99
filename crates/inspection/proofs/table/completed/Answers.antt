-- One entry more adds its mark, and one that is not marked leaves nothing to count.
use Rattle.std.proofs.Common.{◌≡◌, ℕ, ◌+◌, ◌<◌, List, length, get_or, drop, Some, None, Option, sym, refl, ap, ◌∙◌, ⊎_elim, add-zero, arith}
use Rattle.std.proofs.lemmas.List.{at_drop_more, at_drop_all}
use Rattle.draws.specs.Entries.{state_of}
use Rattle.draws.specs.declared.entry.Entry.{Entry}
use Rattle.draws.specs.declared.entry.State.{State}
use Rattle.draws.specs.declared.entry.State.TheVariants.{Empty, Out, Good, Bad}
use Rattle.inspection.specs.Settling.{one_more, add_mark, bad_if_marked, added}
use Rattle.inspection.specs.Tables.{blank}
use Rattle.inspection.proofs.table.completed.Goals as goal
use Rattle.inspection.proofs.table.completed.Goals.{in-Good, in-Bad}

step : (es : List Entry) (i : ℕ) (s : State) → i < length es → state_of (get_or es i blank) ≡ s → bad_if_marked (drop i es) ≡ add_mark s (bad_if_marked (drop (i + 1) es))
step es i s lt e = at_drop_more bad_if_marked es i blank lt ∙ ap (λ s. add_mark s (bad_if_marked (drop (i + 1) es))) e

one_more_lem : (n : ℕ) (o : Option ℕ) → added (n + 1) o ≡ added n (one_more o)
one_more_lem n None = refl
one_more_lem n (Some behind) = ap Some (omega arith)

pub returns-in-Empty : goal.returns-in-Empty
returns-in-Empty c =
    let es = c.args.entries.now in
    let i = c.loop-entry.entry-index in
    let n = c.loop-entry.bad in
    let lt = c.loop-entry-test.true in
    ⊎_elim
    (λ is. sym (ap (added n) (step es i Empty lt is)) ∙ c.loop-entry.invariant.1)
    (λ is. sym (ap (added n) (step es i Out lt is)) ∙ c.loop-entry.invariant.1)
    c.in-Empty.is

pub loop-entry-preserved : goal.loop-entry-preserved
loop-entry-preserved c =
    let es = c.args.entries.now in
    let i = c.loop-entry.entry-index in
    let n = c.loop-entry.bad in
    let lt = c.loop-entry-test.true in
    let inv = c.loop-entry.invariant in
    elim c.match-entry.branch [
      | in-Good w ↦ (omega arith, ap (λ k. added k (bad_if_marked (drop (i + 1) es))) w.bad-is ∙ sym (ap (added n) (step es i Good lt w.in-Good.is)) ∙ inv.1)
      | in-Bad w ↦ (omega arith, ap (λ k. added k (bad_if_marked (drop (i + 1) es))) w.bad-is ∙ one_more_lem n (bad_if_marked (drop (i + 1) es)) ∙ sym (ap (added n) (step es i Bad lt w.in-Bad.is)) ∙ inv.1)
    ]

pub returns : goal.returns
returns c =
    ap Some (sym (add-zero c.loop-entry.bad))
    ∙ ap (added c.loop-entry.bad) (sym (at_drop_all bad_if_marked c.args.entries.now c.loop-entry.entry-index c.loop-entry-test.false))
    ∙ c.loop-entry.invariant.1
