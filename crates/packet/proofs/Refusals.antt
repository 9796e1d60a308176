-- The refusals 11 to 14 in their order, each from what brings it about; and no refusal exactly where a packet keeps all four limits.
-- By the tests, one after the other.
use Rattle.std.specs.Prelude.{◌≡◌, ◌≤◌, ◌<◌}
use Rattle.laws.specs.Kit.{ℕ, arith, ltb, leb, lt-ltb, le-ltb, le-leb, lt-leb, ltb-false, leb-false}
use Rattle.laws.proofs.Choose.{pick_either}
use Rattle.packet.specs.declared.Past.{Past}
use Rattle.packet.specs.Step.{elapsed_of, refusal_of}

-- the four limits of a packet
pub record Accepted (past : Past) (t marker : ℕ) : Type 0 where
  pub marker_small : marker ≤ 1
  pub in_order : past.last ≤ t
  pub in_time : elapsed_of past t ≤ 600000000000
  pub few : past.packets < 1000000000

module _ (past : Past) (t marker : ℕ) where
  pub refused_11 : 1 < marker → refusal_of past t marker ≡ 11
  unfolding refusal_of
  refused_11 h = simp (lt-ltb _ _ h)

  pub refused_12 : marker ≤ 1 → t < past.last → refusal_of past t marker ≡ 12
  unfolding refusal_of
  refused_12 m h = simp (le-ltb _ _ m, lt-ltb _ _ h)

  pub refused_13 : marker ≤ 1 → past.last ≤ t → 600000000000 < elapsed_of past t → refusal_of past t marker ≡ 13
  unfolding refusal_of
  refused_13 m o h = simp (le-ltb _ _ m, le-ltb _ _ o, lt-ltb _ _ h)

  pub refused_14 : marker ≤ 1 → past.last ≤ t → elapsed_of past t ≤ 600000000000 → 1000000000 ≤ past.packets → refusal_of past t marker ≡ 14
  unfolding refusal_of
  refused_14 m o e h = simp (le-ltb _ _ m, le-ltb _ _ o, le-ltb _ _ e, le-leb _ _ h)

  pub accepted_0 : marker ≤ 1 → past.last ≤ t → elapsed_of past t ≤ 600000000000 → past.packets < 1000000000 → refusal_of past t marker ≡ 0
  unfolding refusal_of
  accepted_0 m o e h = simp (le-ltb _ _ m, le-ltb _ _ o, le-ltb _ _ e, lt-leb _ _ h)

  pub accepted : refusal_of past t marker ≡ 0 → Accepted past t marker
  unfolding refusal_of
  accepted =
      let P : ℕ → Type 0 = λ n. n ≡ 0 → Accepted past t marker in
      pick_either P (ltb 1 marker) (λ h z. absurd (omega arith)) (λ m.
      pick_either P (ltb t past.last) (λ h z. absurd (omega arith)) (λ o.
      pick_either P (ltb 600000000000 (elapsed_of past t)) (λ h z. absurd (omega arith)) (λ e.
      pick_either P (leb 1000000000 past.packets) (λ h z. absurd (omega arith)) (λ f z.
      record {
        marker_small = ltb-false _ _ m;
        in_order = ltb-false _ _ o;
        in_time = ltb-false _ _ e;
        few = leb-false _ _ f;
      }))))
