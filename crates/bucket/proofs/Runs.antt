-- Peak and first burst in sums of naturals, over any D: the peak is the
-- greatest level, and the first level above the limit names the first burst.
use Rattle.std.specs.Prelude.{◌≡◌, ◌+◌, ◌≤◌, ◌<◌}
use Rattle.laws.specs.Kit.{refl, Bool, true, false, ℕ, zero, suc, arith, not-suc-le-zero, dec_lt, ltb, ltb-true}
use Rattle.laws.specs.Kit.{ltb-false}
use Rattle.laws.specs.Climb.{Climbs}
use Rattle.laws.proofs.Choose.{up_to}
use Rattle.laws.specs.Most.{most}
use Rattle.laws.proofs.Most.{most_is}
use Rattle.bucket.specs.declared.Network.{Network}
use Rattle.bucket.specs.declared.Network.TheVariants.{Pass, Burst}
use Rattle.bucket.specs.Step.{level_at, start_at, judged, network_at}
use Rattle.bucket.proofs.Levels.{level_bound, level_named, level_rises}

-- the run a .. b has an excess above c: its packets are more than c and the drains between its ends
abbrev pub Above : (ℕ → ℕ) → ℕ → ℕ → ℕ → Type 0
Above D c a b = c + D b + a < b + 1 + D a

-- the excess p that no run of the first m packets exceeds, and one has
pub record Peak (D : ℕ → ℕ) (m p : ℕ) : Type 0 where
  pub bound : (a b : ℕ) → a ≤ b → b < m → b + 1 + D a ≤ p + D b + a
  pub met : 0 < m → (a : ℕ) × (b : ℕ) × (a ≤ b) × (b < m) × (b + 1 + D a ≡ p + D b + a)
  pub none : m ≡ 0 → p ≡ 0

pub peak_is : (D : ℕ → ℕ) (m : ℕ) → Climbs D m → Peak D m (most (level_at D) m)
peak_is D m mono =
    let g = most_is (level_at D) m in
    record {
      bound = λ a b h k. omega (arith, level_bound D m mono a b h k, g.bound b k);
      met = λ h.
          let w = g.met h in
          let n = level_named D m mono w.0 w.1 in
          (start_at D w.0, w.0, n.within, w.1, omega (arith, n.exact, w.2));
      none = g.none;
    }

-- the failing run that ends first and, of those, starts last
pub record First (D : ℕ → ℕ) (m c s e : ℕ) : Type 0 where
  pub starts : s ≤ e
  pub ends : e < m
  pub fails : Above D c s e
  pub soonest : (a b : ℕ) → a ≤ b → b < m → Above D c a b → e ≤ b
  pub last : (a : ℕ) → a ≤ e → Above D c a e → a ≤ s

abbrev Low : (ℕ → ℕ) → ℕ → ℕ → Type 0
Low D m c = (b : ℕ) → b < m → level_at D b ≤ c

-- the first level above c names the first failing run
first_of : (D : ℕ → ℕ) (m c e : ℕ) → Climbs D m → e < m → Low D e c → c < level_at D e → First D m c (start_at D e) e
first_of D m c e mono k low high =
    let n = level_named D m mono e k in
    record {
      starts = n.within;
      ends = k;
      fails = omega (arith, n.exact);
      soonest = λ a b h g f.
          let sooner : ¬ (b < e) = λ q. omega (arith, level_bound D m mono a b h g, low b q) in omega arith;
      last = λ a h f.
          let later : ¬ (start_at D e < a) = λ q. omega (arith, n.later a q h, level_rises D c e low) in omega arith;
    }

-- what the answer after m packets says of the levels
abbrev OfLevels : (ℕ → ℕ) → ℕ → ℕ → Network → Type 0
OfLevels D c m Pass = Low D m c
OfLevels D c m (Burst r) = (r.last < m) × Low D r.last c × (c < level_at D r.last) × (r.first ≡ start_at D r.last)

of_levels : (D : ℕ → ℕ) (c m : ℕ) → OfLevels D c m (network_at D c m)
unfolding network_at
of_levels D c zero = λ b h. absurd (not-suc-le-zero h)
of_levels D c (suc m) = go (network_at D c m) (ltb c (level_at D m)) refl (of_levels D c m)
  where
    go : (v : Network) (t : Bool) → ltb c (level_at D m) ≡ t → OfLevels D c m v → OfLevels D c (suc m) (judged v t (start_at D m) m)
    go Pass true e low = (omega arith, low, ltb-true c (level_at D m) e, refl)
    go Pass false e low = up_to (λ b. level_at D b ≤ c) m low (ltb-false c (level_at D m) e)
    go (Burst r) t e w = (omega (arith, w.0), w.1, w.2, w.3)

-- D3c: so a level that is no new peak is no news: with a pass so far no level was above c, and this one is no higher
pub judged_at_peaks : (D : ℕ → ℕ) (c m : ℕ) → level_at D m ≤ most (level_at D) m
    → judged (network_at D c m) (ltb c (level_at D m)) (start_at D m) m ≡ network_at D c m
judged_at_peaks D c m l = go (network_at D c m) (ltb c (level_at D m)) refl (of_levels D c m)
  where
    low_peak : Low D m c → Dec (0 < m) → most (level_at D) m ≤ c
    low_peak low (yes some) = let w = (most_is (level_at D) m).met some in omega (arith, low w.0 w.1, w.2)
    low_peak low (no none) = omega (arith, (most_is (level_at D) m).none (omega arith))

    go : (v : Network) (t : Bool) → ltb c (level_at D m) ≡ t → OfLevels D c m v → judged v t (start_at D m) m ≡ v
    go Pass true e low = absurd (omega (arith, ltb-true c (level_at D m) e, low_peak low (dec_lt 0 m)))
    go Pass false e low = refl
    go (Burst r) t e w = refl

-- and what it says of the runs
abbrev pub OfRuns : (ℕ → ℕ) → ℕ → ℕ → Network → Type 0
OfRuns D c m Pass = (a b : ℕ) → a ≤ b → b < m → ¬ Above D c a b
OfRuns D c m (Burst r) = First D m c r.first r.last

pub of_runs : (D : ℕ → ℕ) (c m : ℕ) → Climbs D m → OfRuns D c m (network_at D c m)
of_runs D c m mono = go (network_at D c m) (of_levels D c m)
  where
    go : (v : Network) → OfLevels D c m v → OfRuns D c m v
    go Pass low = λ a b h k f. omega (arith, level_bound D m mono a b h k, low b k)
    go (Burst r) w = rw w.3 (first_of D m c r.last mono w.0 w.1 w.2)
