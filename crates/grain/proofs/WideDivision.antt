-- What is left of k·t when whole m's are taken away, by way of t's own rest: whole m's of t stay whole when t is taken k times.
use Rattle.std.specs.Prelude.{◌+◌, ◌*◌, ◌/◌, ◌%◌, ◌≡◌}
use Rattle.laws.specs.Kit.{ℕ, sym, ap, ◌∙◌, div-add-mod, mul-add-mod_self_left, mul-add, mul_left_comm}

module _ (k t m : ℕ) where
  apart : k * t ≡ m * (k * (t / m)) + k * (t % m)
  apart =
      ap (λ (n : ℕ). k * n) (sym (div-add-mod t m)) ∙ mul-add k (m * (t / m)) (t % m)
      ∙ ap (λ (n : ℕ). n + k * (t % m)) (mul_left_comm k m (t / m))

  pub remainder : k * (t % m) % m ≡ k * t % m
  remainder = sym (ap (λ (n : ℕ). n % m) apart ∙ mul-add-mod_self_left m (k * (t / m)) (k * (t % m)))
