-- `de_morgan::put_all` meets its contract: `search` stops at one of its limits with the fitting law cited.
use Prim.Native.Nat.{ℕ, suc, ◌+◌, ◌-◌}
use mathlib.Core.Path.{◌≡◌, refl, ap, ◌∙◌}
use mathlib.Core.List.{reverse}
use native.Mathlib.Omega.{arith}
use lib.Dec.{eqb}
use Rattle.format.specs.Limits.{weigh}
use Rattle.tape.specs.Layouts.{code_at, width_at, text_behind}
use Rattle.tape.proofs.Counting.{ors_step}
use Rattle.de_morgan.proofs.Heads.{put_turn, one_negation, three_heads}
use Rattle.de_morgan.proofs.put_all.Goals as goal

pub put_entry-requires : goal.put_entry-requires
put_entry-requires c = let l = c.loop-at in
    let begun = c.begin_side.ensures.put in
    omega (arith, begun.next_is, one_negation l.at (reverse l.sides.items), l.invariant.2, c.loop-at-test.true, c.args.held.now.held.entries_most)

pub loop-at-preserved : goal.loop-at-preserved
loop-at-preserved c = let l = c.loop-at in
    let a = c.args in
    let begun = c.begin_side.ensures in
    let code = c.code_at-code in
    let put = c.put_entry.ensures in
    let added = c.add_side.ensures in
    let left : a.held.now.tape.layout.entries - l.at ≡ suc (a.held.now.tape.layout.entries - (l.at + 1)) = omega arith in
    let step = ors_step a.held.now.tape.bytes.now a.held.now.tape.layout l.at c.loop-at-test.true a.held.now.held.codes_held in
    let w : weigh (eqb code.result 2) ≡ weigh (eqb (code_at a.held.now.tape.bytes.now a.held.now.tape.layout l.at) 2) = ap (λ (k : ℕ). weigh (eqb k 2)) code.ensures in
    let text : c.text_behind-text.result ≡ text_behind a.held.now.tape.layout.size l.text (width_at a.held.now.tape.bytes.now a.held.now.tape.layout l.at) =
    c.text_behind-text.ensures.0 ∙ rw (c.text_width.ensures, code.ensures, c.value_at-value.ensures) refl in (
      c.text_behind-text.ensures.1,
      omega (arith, step, w, l.invariant.1, begun.no_more, added.one_more),
      omega (arith, l.invariant.2, begun.put.next_is, one_negation l.at (reverse l.sides.items), put.next_is, three_heads code.result c.value_at-value.result),
      put.same_n ∙ begun.put.same_n ∙ l.invariant.3,
      put.same_slice ∙ begun.put.same_slice ∙ l.invariant.4,
      put_turn a.held.now.tape.bytes.now a.held.now.tape.layout (a.held.now.tape.layout.entries - (l.at + 1)) l.at l.text l.sides.items l.rewriting
          begun code.ensures c.value_at-value.ensures text put added
          ∙ rw left at l.invariant.5,
    )
