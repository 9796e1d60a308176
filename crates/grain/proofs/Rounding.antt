-- N = round(g/F), halves up, is the one N that is nearest; FPT lies in [−F/2, F/2); and N is told by the rest of g divided by F. For any F.
use Rattle.std.specs.Prelude.{◌+◌, ◌*◌, ◌-◌, ◌/◌, ◌%◌, ◌≤◌, ◌<◌, ◌≡◌}
use Rattle.laws.specs.Kit.{ℕ, sym, ap, ◌∙◌, arith, dec_lt, div-add-mod', mod-eq_of_lt, mod-lt}
use Rattle.std.specs.Prelude.{◌≤ℤ◌, ◌<ℤ◌}
use Rattle.laws.specs.Kit.{div-mul-le_self, lt-div-mul-add, mul-le-mul_right, suc-mul, add-mul, pos, neg_ℤ, sub_ℕ}
use Rattle.laws.proofs.Differ.{differ_sub, differ_le, differ_lt, differ_neg, sub_same}
use Rattle.grain.specs.Paper.{Nearest, nearest, frame_time, phase, first_packet_time}

-- P7: the quotient is the nearest
pub nearest_is : (g F : ℕ) → 0 < F → Nearest g F (nearest g F)
unfolding nearest
nearest_is g F p = record {
  low = omega (arith, div-mul-le_self (2 * g + F) (2 * F));
  high = omega (arith, lt-div-mul-add {a = 2 * g + F} {b = 2 * F} (omega arith));
}

pub nearest_unique : (g F N M : ℕ) → Nearest g F N → Nearest g F M → N ≡ M
nearest_unique g F N M p q =
    let not_less : ¬ (N < M) = λ h. omega (arith, mul-le-mul_right F h, suc-mul N F) in
    let not_more : ¬ (M < N) = λ h. omega (arith, mul-le-mul_right F h, suc-mul M F) in
    omega arith

-- "FPT is at least minus half a frame and below plus half": twice FPT is at least −F and below F
module _ (g F : ℕ) (p : 0 < F) where
  -- P8: at least minus half a frame
  pub at_least : neg_ℤ (pos F) ≤ℤ sub_ℕ (2 * g) (2 * frame_time g F)
  at_least =
      differ_le (neg_ℤ (pos F)) (sub_ℕ (2 * g) (2 * frame_time g F)) 0 F (2 * g) (2 * frame_time g F) (differ_neg F)
      (differ_sub (2 * g) (2 * frame_time g F)) (omega (arith, (nearest_is g F p).low))

  -- P8: and below plus half
  pub below : sub_ℕ (2 * g) (2 * frame_time g F) <ℤ pos F
  below =
      differ_lt (sub_ℕ (2 * g) (2 * frame_time g F)) (pos F) (2 * g) (2 * frame_time g F) F 0 (differ_sub (2 * g) (2 * frame_time g F))
      (omega arith) (omega (arith, (nearest_is g F p).high))

-- what the code does: the rest of g by F against what is left of the frame
module _ (g F : ℕ) (p : 0 < F) where
  goes_down : g % F < F - g % F → nearest g F ≡ g / F
  goes_down l =
      nearest_unique g F (nearest g F) (g / F) (nearest_is g F p)
      (record { low = omega (arith, div-add-mod' g F); high = omega (arith, div-add-mod' g F) })

  next : (g / F + 1) * F ≡ g / F * F + F
  next = add-mul (g / F) 1 F ∙ ap (λ (n : ℕ). g / F * F + n) (omega arith)

  goes_up : F - g % F ≤ g % F → nearest g F ≡ g / F + 1
  goes_up l =
      nearest_unique g F (nearest g F) (g / F + 1) (nearest_is g F p)
      (record { low = omega (arith, next, div-add-mod' g F); high = omega (arith, next, div-add-mod' g F, mod-lt g p) })

  pub phase_down : g % F < F - g % F → g % F + F ≡ phase g F
  unfolding phase
  phase_down l = omega (arith, ap (λ (n : ℕ). n * F) (goes_down l), div-add-mod' g F)

  pub phase_up : F - g % F ≤ g % F → g % F ≡ phase g F
  unfolding phase
  phase_up l = omega (arith, ap (λ (n : ℕ). n * F) (goes_up l), next, div-add-mod' g F)

-- so the rest alone tells the phase
pub phase_rest : (g F : ℕ) → 0 < F → phase (g % F) F ≡ phase g F
phase_rest g F p = go (dec_lt (g % F) (F - g % F))
  where
    own : g % F % F ≡ g % F
    own = mod-eq_of_lt (mod-lt g p)

    go : Dec (g % F < F - g % F) → phase (g % F) F ≡ phase g F
    go (yes l) = sym (phase_down (g % F) F p (omega (arith, own))) ∙ ap (λ (n : ℕ). n + F) own ∙ phase_down g F p l
    go (no l) = sym (phase_up (g % F) F p (omega (arith, own))) ∙ own ∙ phase_up g F p (omega arith)

-- the phase with its frame start is the time with a frame, so FPT is the phase less a frame; and it is below two frames
module _ (g F : ℕ) (p : 0 < F) where
  pub phase_from : phase g F + frame_time g F ≡ g + F
  unfolding phase
  phase_from = omega (arith, (nearest_is g F p).low)

  pub phase_less : sub_ℕ (phase g F) F ≡ first_packet_time g F
  phase_less = sub_same (phase g F) F g (frame_time g F) (omega (arith, phase_from))

  pub phase_small : phase g F < 2 * F
  phase_small = omega (arith, phase_from, (nearest_is g F p).high)
