-- A past passes its tests exactly where it is in range, fact by fact; that of no packets is, and an accepted packet keeps it so.
use Rattle.std.specs.Prelude.{◌≡◌, ◌-◌, ◌≤◌}
use Rattle.laws.specs.Kit.{refl, Bool, true, false, ℕ, arith, eqb}
use Rattle.laws.specs.Choose.{pick}
use Rattle.laws.proofs.Choose.{pick_either}
use Rattle.laws.specs.Every.{every, All}
use Rattle.laws.proofs.Every.{facts, of_facts, ◌and◌}
use Rattle.packet.specs.declared.Past.{Past}
use Rattle.packet.specs.Step.{nothing, first_of, since_of, next_of}
use Rattle.packet.specs.Range.{ranges, Ranged}
use Rattle.packet.proofs.Refusals.{Accepted}

pub ranged_of : (past : Past) → every (ranges past) ≡ true → Ranged past
ranged_of past e =
    let t = facts (ranges past) e in
    record { few = t 0; first_none = t 1; last_none = t 2; order = t 3; near = t 4 }

pub of_ranged : (past : Past) → Ranged past → every (ranges past) ≡ true
unfolding All
of_ranged past x = of_facts (ranges past) (x.few and x.first_none and x.last_none and x.order and x.near and tt)

pub ranged_none : Ranged nothing
ranged_none = record { few = omega arith; first_none = λ z. refl; last_none = λ z. refl; order = omega arith; near = omega arith }

-- the first arrival is no later than the packet's own
pub first_order : (past : Past) (t marker : ℕ) → Ranged past → Accepted past t marker → first_of past t ≤ t
first_order past t marker x a =
    pick_either (λ f. f ≤ t) (eqb past.packets 0) (λ e. omega arith) (λ e. omega (arith, x.order, a.in_order))

pub ranged_next : (past : Past) (t marker : ℕ) → Ranged past → Accepted past t marker → Ranged (next_of past t)
ranged_next past t marker x a = record {
  few = omega (arith, a.few);
  first_none = λ z. absurd (omega arith);
  last_none = λ z. absurd (omega arith);
  order = first_order past t marker x a;
  near = a.in_time;
}

-- 600 s lie between the first packet and this one, so no more between this one and the one before
pub since_near : (past : Past) (t marker : ℕ) → Ranged past → Accepted past t marker → since_of past t ≤ 600000000000
since_near past t marker x a = go (eqb past.packets 0) a.in_time
  where
    go : (z : Bool) → t - pick z t past.first ≤ 600000000000 → pick z 0 (t - past.last) ≤ 600000000000
    go true h = omega arith
    go false h = omega (arith, x.order)
