-- The owner's words about the bucket as theorems: of the bucket that a history of ordered arrivals declares, level,
-- peak, answer and conservation. The idea: sums of naturals (Levels, Runs) are turned into the signed excess once, here.
use Rattle.std.specs.Prelude.{◌≡◌, ◌↔◌, ◌&&◌, ◌+◌, ◌-◌, ◌*◌, ◌≤◌, ◌<◌}
use Rattle.laws.specs.Kit.{refl, sym, ap, ◌∙◌, Bool, true, false, ℕ, zero, suc, arith}
use Rattle.std.specs.Prelude.{◌≤ℤ◌}
use Rattle.laws.specs.Kit.{le-div_iff_mul-le, div-lt_iff_lt-mul, leb, ltb, leb→le, ℤ, pos, leb-true, le-leb, ltb-true, lt-ltb}
use Rattle.laws.specs.Climb.{Climbs}
use Rattle.laws.proofs.Climb.{climbs_le}
use Rattle.laws.proofs.Choose.{false_true}
use Rattle.laws.specs.Most.{most}
use Rattle.laws.specs.Count.{count}
use Rattle.laws.proofs.Count.{count_between}
use Rattle.laws.proofs.Differ.{differ_sub, differ_same, differ_le, differ_lt, lt_differ}
use Rattle.grain.specs.Paper.{InstantBy}
use Rattle.grain.proofs.InstantCount.{instants_are, instants_grow}
use Rattle.bucket.specs.declared.Network.{Network}
use Rattle.bucket.specs.declared.Network.TheVariants.{Pass, Burst}
use Rattle.bucket.specs.Paper.{History, elapsed, drains, found, level, IsRun, drains_run, drains_in, excess}
use Rattle.bucket.specs.Paper.{GreatestEnding, GreatestExcess, Fails, NetworkIs}
use Rattle.bucket.specs.Step.{level_at, start_at, network_at, bucket_at}
use Rattle.bucket.proofs.Levels.{level_one, level_bound, level_named}
use Rattle.bucket.proofs.Runs.{Above, Peak, peak_is, OfRuns, of_runs}
use Rattle.bucket.proofs.Draining.{conserved, level_is}

-- what each arrival says of the one before it, in an accepted history (refusal 12)
abbrev pub Ordered : History → Type 0
Ordered h = (i : ℕ) → suc i < h.packets → h.arrival i ≤ h.arrival (suc i)

-- ---- one answer only

pos_le : {p q : ℕ} {z : ℤ} → z ≡ pos p → z ≤ℤ pos q → p ≤ q
pos_le {p} {q} e l = leb→le p q (rw e at l).le

pub level_unique : (h : History) (i p q : ℕ) → GreatestEnding h i p → GreatestEnding h i q → p ≡ q
level_unique h i p q x y =
    let v = x.met in
    let w = y.met in
    omega (arith, pos_le v.2 (y.bound v.0 v.1), pos_le w.2 (x.bound w.0 w.1))

pub peak_unique : (h : History) (p q : ℕ) → GreatestExcess h p → GreatestExcess h q → p ≡ q
peak_unique h p q x y = go h.packets refl
  where
    go : (m : ℕ) → h.packets ≡ m → p ≡ q
    go zero e = omega (arith, x.none e, y.none e)
    go (suc m) e =
        let v = x.met (omega arith) in
        let w = y.met (omega arith) in
        omega (arith, pos_le v.3 (y.bound v.0 v.1 v.2), pos_le w.3 (x.bound w.0 w.1 w.2))

pub network_unique : (h : History) (limit : ℕ) (v w : Network) → NetworkIs h limit v → NetworkIs h limit w → v ≡ w
network_unique h limit Pass Pass x y = refl
network_unique h limit Pass (Burst r) x y = absurd (x r.first r.last y.run y.fails)
network_unique h limit (Burst r) Pass x y = absurd (y r.first r.last x.run x.fails)
network_unique h limit (Burst r) (Burst s) x y =
    let ends : r.last ≡ s.last = omega
    (arith, x.ends_first s.first s.last y.run y.fails, y.ends_first r.first r.last x.run x.fails) in
    let sooner = x.starts_last s.first (rw (sym ends) at y.run) (rw (sym ends) at y.fails) in
    let later = y.starts_last r.first (rw ends at x.run) (rw ends at x.fails) in
    let starts : r.first ≡ s.first = omega arith in
    λ j. Burst (record { first = starts j; last = ends j })

module _ (h : History) (p : 0 < h.frame) (ordered : Ordered h) where
  -- "k ≤ D exactly when drain instant k is up to packet i's arrival"
  pub drain_instants : (k i : ℕ) → k ≤ drains h i ↔ InstantBy (10 * h.frame) (11 * h.per_frame) k (elapsed h i)
  drain_instants k i = instants_are (10 * h.frame) (11 * h.per_frame) (omega arith) k (elapsed h i)

  pub drains_grow : Climbs (drains h) h.packets
  drains_grow i l = instants_grow (10 * h.frame) (11 * h.per_frame) (omega arith) (elapsed h i) (elapsed h (suc i))
      (omega (arith, ordered i l))

  up : (a b : ℕ) → a ≤ b → b < h.packets → drains h a ≤ drains h b
  up = climbs_le (drains h) h.packets drains_grow

  -- the drain instants of a run, counted one by one among any number of instants that reaches its end
  pub drains_of_run : (a b K : ℕ) → IsRun h a b → drains h b ≤ K → count (λ k. drains_run h a b (suc k)) K ≡ drains h b - drains h a
  drains_of_run a b K r l =
      let c = count_between (λ k. drains_run h a b (suc k)) K (drains h a) (drains h b)
      (record { inside = λ k g t. inside k t; passes = λ k g. passes k }) in
      omega (arith, up a b r.starts r.ends)
    where
      q : 0 < 10 * h.frame
      q = omega arith

      inside : (k : ℕ) → drains_run h a b (suc k) ≡ true → (drains h a ≤ k) × (k < drains h b)
      inside k = go (ltb (elapsed h a * (11 * h.per_frame)) (suc k * (10 * h.frame))) refl
          (leb (suc k * (10 * h.frame)) (elapsed h b * (11 * h.per_frame))) refl
        where
          go : (s : Bool) → ltb (elapsed h a * (11 * h.per_frame)) (suc k * (10 * h.frame)) ≡ s → (t : Bool)
              → leb (suc k * (10 * h.frame)) (elapsed h b * (11 * h.per_frame)) ≡ t → (s && t) ≡ true
              → (drains h a ≤ k) × (k < drains h b)
          go true x true y w = (
            let after : drains h a < suc k = (div-lt_iff_lt-mul q).1 (ltb-true _ _ x) in omega arith,
            (le-div_iff_mul-le q).1 (leb-true _ _ y),
          )
          go true x false y w = absurd (false_true w)
          go false x t y w = absurd (false_true w)

      passes : (k : ℕ) → drains h a ≤ k → k < drains h b → drains_run h a b (suc k) ≡ true
      passes k x y = rw (
        lt-ltb (elapsed h a * (11 * h.per_frame)) (suc k * (10 * h.frame)) ((div-lt_iff_lt-mul q).0 (omega arith)),
        le-leb (suc k * (10 * h.frame)) (elapsed h b * (11 * h.per_frame)) ((le-div_iff_mul-le q).0 y),
      )

  -- so a run's excess is a difference of two counts from the first packet on
  in_run : (a b : ℕ) → IsRun h a b → drains_in h a b ≡ drains h b - drains h a
  in_run a b r = drains_of_run a b (drains h b) r (omega arith)

  -- ---- the signed excess, and the sums of naturals

  at_most : (a b c : ℕ) → IsRun h a b → b + 1 + drains h a ≤ c + drains h b + a → excess h a b ≤ℤ pos c
  at_most a b c r l =
      differ_le (excess h a b) (pos c) (suc b - a) (drains_in h a b) c 0 (differ_sub (suc b - a) (drains_in h a b)) (omega arith)
      (omega (arith, r.starts, in_run a b r, up a b r.starts r.ends))

  equals : (a b c : ℕ) → IsRun h a b → b + 1 + drains h a ≡ c + drains h b + a → excess h a b ≡ pos c
  equals a b c r e =
      differ_same (excess h a b) (pos c) (suc b - a) (drains_in h a b) c 0 (differ_sub (suc b - a) (drains_in h a b)) (omega arith)
      (omega (arith, r.starts, in_run a b r, up a b r.starts r.ends))

  fails_above : (a b c : ℕ) → IsRun h a b → Above (drains h) c a b → Fails h c a b
  fails_above a b c r l =
      differ_lt (pos c) (excess h a b) c 0 (suc b - a) (drains_in h a b) (omega arith) (differ_sub (suc b - a) (drains_in h a b))
      (omega (arith, r.starts, in_run a b r, up a b r.starts r.ends))

  above_fails : (a b c : ℕ) → IsRun h a b → Fails h c a b → Above (drains h) c a b
  above_fails a b c r l =
      let s = lt_differ (pos c) (excess h a b) c 0 (suc b - a) (drains_in h a b) (omega arith) (differ_sub (suc b - a) (drains_in h a b)) l in
      omega (arith, s, r.starts, in_run a b r, up a b r.starts r.ends)

  -- ---- the theorems

  -- B4, D3b: the level after a packet is the greatest excess of the runs that end there
  pub level_greatest : (i : ℕ) → i < h.packets → GreatestEnding h i (level h i)
  level_greatest i l =
      let n = level_named (drains h) h.packets drains_grow i l in
      rw (sym (level_is h p drains_grow i l)) (record {
        bound = λ a g. at_most a i (level_at (drains h) i) (record { starts = g; ends = l })
            (level_bound (drains h) h.packets drains_grow a i g l);
        met = (
          start_at (drains h) i,
          n.within,
          equals (start_at (drains h) i) i (level_at (drains h) i)
              (record { starts = n.within; ends = l }) n.exact,
        );
      })

  -- the numbers of the declared bucket
  peak_at : (limit m : ℕ) → (bucket_at (drains h) limit m).peak ≡ most (level_at (drains h)) m
  unfolding bucket_at
  peak_at limit zero = refl
  peak_at limit (suc m) = refl

  network_at_lem : (limit m : ℕ) → (bucket_at (drains h) limit m).network ≡ network_at (drains h) limit m
  unfolding bucket_at
  network_at_lem limit zero = refl
  network_at_lem limit (suc m) = refl

  level_at_lem : (limit m : ℕ) → (bucket_at (drains h) limit (suc m)).level ≡ level_at (drains h) m
  unfolding bucket_at
  level_at_lem limit m = refl

  -- "The peak is the greatest excess of any unbroken run"
  pub peak_greatest : (limit : ℕ) → GreatestExcess h (bucket_at (drains h) limit h.packets).peak
  peak_greatest limit = rw (peak_at limit h.packets) (go (peak_is (drains h) h.packets drains_grow))
    where
      go : {t : ℕ} → Peak (drains h) h.packets t → GreatestExcess h t
      go {t} k = record {
        bound = λ a b r. at_most a b t r (k.bound a b r.starts r.ends);
        met = λ l.
            let w = k.met l in
            let r : IsRun h w.0 w.1 = record { starts = w.2; ends = w.3 } in
            (w.0, w.1, r, equals w.0 w.1 t r w.4);
        none = k.none;
      }

  -- "the network verdict passes exactly when no run's excess is above the class
  -- limit, else it names the failing run that ends first and, of those, starts last"
  pub network_first : (limit : ℕ) → NetworkIs h limit (bucket_at (drains h) limit h.packets).network
  network_first limit = rw (network_at_lem limit h.packets)
      (go (network_at (drains h) limit h.packets) (of_runs (drains h) limit h.packets drains_grow))
    where
      go : (v : Network) → OfRuns (drains h) limit h.packets v → NetworkIs h limit v
      go Pass none = λ a b r f. none a b r.starts r.ends (above_fails a b limit r f)
      go (Burst r) w =
          let run : IsRun h r.first r.last = record { starts = w.starts; ends = w.ends } in
          record {
            run = run;
            fails = fails_above r.first r.last limit run w.fails;
            ends_first = λ a b s f. w.soonest a b s.starts s.ends (above_fails a b limit s f);
            starts_last = λ a s f. w.last a s.starts (above_fails a r.last limit s f);
          }

  -- "Packets accepted equal drains that found a packet, counted instant by instant up to the last arrival, plus the level then."
  pub conservation : (limit last : ℕ) → h.packets ≡ suc last
      → h.packets ≡ found h (drains h last) + (bucket_at (drains h) limit h.packets).level
  conservation limit last e =
      let level_then : (bucket_at (drains h) limit h.packets).level ≡ level_at (drains h) last =
      ap (λ (m : ℕ). (bucket_at (drains h) limit m).level) e ∙ level_at_lem limit last in
      omega (arith, conserved h p drains_grow last (omega arith))

  -- the level that the bucket holds after packet i is document 01's
  pub level_of : (limit i : ℕ) → i < h.packets → (bucket_at (drains h) limit (suc i)).level ≡ level h i
  level_of limit i l = level_at_lem limit i ∙ level_is h p drains_grow i l

  -- E2: instants that found nothing are not saved up: after however many, the next packet is in the bucket
  pub not_saved_up : (i : ℕ) → suc i < h.packets → level h i ≤ drains h (suc i) - drains h i → level h (suc i) ≡ 1
  not_saved_up i l few =
      let here = level_is h p drains_grow i (omega arith) in
      sym (level_is h p drains_grow (suc i) l) ∙ level_one (drains h) i (omega arith)
