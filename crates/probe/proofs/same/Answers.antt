-- The rest of the two, from where the loop is, is alike exactly where the whole is.
use Rattle.std.specs.Prelude.{◌≡◌}
use Rattle.laws.specs.Kit.{refl, sym, ◌∙◌, arith, length}
use Rattle.probe.proofs.Alike.{unequal, alike_here, differ_here, alike_ends}
use Rattle.probe.proofs.same.Goals as goal

pub returns-then-a-b : goal.returns-then-a-b
returns-then-a-b c = sym (unequal _ _ (λ e. omega (arith, c.if-a-b.true)))

pub loop-k-init : goal.loop-k-init
loop-k-init c = refl

pub returns-then-differ : goal.returns-then-differ
returns-then-differ c =
    let l = c.loop-k in
    sym (differ_here _ _ l.k (omega arith) (omega (arith, c.if-a-b.false)) (λ e. omega (arith, c.if-differ.true))) ∙ l.invariant

pub loop-k-preserved : goal.loop-k-preserved
loop-k-preserved c =
    let l = c.loop-k in
    alike_here _ _ l.k (omega arith) (omega (arith, c.if-a-b.false)) (omega (arith, c.if-differ.false)) ∙ l.invariant

pub returns : goal.returns
returns c =
    let l = c.loop-k in
    let a = c.args in
    let ends : l.k ≡ length a.a.now = omega arith in
    sym (alike_ends a.a.now a.b.now c.if-a-b.false) ∙ rw (← ends) l.invariant
