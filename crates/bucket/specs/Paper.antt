-- Document 01's section "The bucket" and demand 3's words on it, over the
-- whole history by place: m packets, packet i arriving at a i grains.
use Rattle.std.specs.Prelude.{◌≡◌, ◌&&◌, ◌+◌, ◌-◌, ◌*◌, ◌≤◌, ◌<◌, ◌≤ℤ◌, ◌<ℤ◌}
use Rattle.laws.specs.Kit.{Bool, ℕ, zero, suc, ltb, leb, ℤ, pos, sub_ℕ}
use Rattle.laws.specs.Choose.{pick}
use Rattle.laws.specs.Count.{count}
use Rattle.grain.specs.Paper.{instants}
use Rattle.bucket.specs.declared.Network.{Network}
use Rattle.bucket.specs.declared.Network.TheVariants.{Pass, Burst}

-- A history as the bucket sees it, and the numbers of its stream.
pub record History : Type 0 where
  pub frame : ℕ
  pub per_frame : ℕ
  pub packets : ℕ
  pub arrival : ℕ → ℕ

module _ (h : History) where
  -- grains from the first packet of the history to packet i
  abbrev pub elapsed : ℕ → ℕ
  elapsed i = h.arrival i - h.arrival 0

  -- B1: "Drain instants lie k·10F/(11n) grains after the first packet of the
  -- history, k = 1, 2, and so on": how many are up to packet i's arrival
  abbrev pub drains : ℕ → ℕ
  drains i = instants (elapsed i) (10 * h.frame) (11 * h.per_frame)

  -- B3: packet i comes strictly before drain instant k: "at one instant the drain comes before arrivals"
  abbrev pub comes_before : ℕ → ℕ → Bool
  comes_before k i = ltb (elapsed i * (11 * h.per_frame)) (k * (10 * h.frame))

  abbrev pub arrived_before : ℕ → ℕ
  arrived_before k = count (comes_before k) h.packets

  -- B2, E2: "A drain takes one packet if one is there": of the first k drain instants, how many found a packet
  unfoldable pub found : ℕ → ℕ
  found zero = 0
  found (suc k) = found k + pick (ltb (found k) (arrived_before (suc k))) 1 0

  -- B4: "Level is counted just after an arrival, that packet included": the packets up to i less the drains, up to its arrival, that found
  -- one
  abbrev pub level : ℕ → ℕ
  level i = suc i - found (drains i)

  -- D3b: The packets a .. b are an unbroken run; its excess is its packets less "the drain instants after its first arrival up to its
  -- last".
  pub record IsRun (a b : ℕ) : Type 0 where
    pub starts : a ≤ b
    pub ends : b < h.packets

  -- D3b: instant k is such a one: after the first arrival, up to the last
  abbrev pub drains_run : ℕ → ℕ → ℕ → Bool
  drains_run a b k =
      ltb (elapsed a * (11 * h.per_frame)) (k * (10 * h.frame)) && leb (k * (10 * h.frame)) (elapsed b * (11 * h.per_frame))

  -- how many there are, counted one by one: among the first `drains b` instants, since none later is up to the last arrival
  abbrev pub drains_in : ℕ → ℕ → ℕ
  drains_in a b = count (λ k. drains_run a b (suc k)) (drains b)

  abbrev pub excess : ℕ → ℕ → ℤ
  excess a b = sub_ℕ (suc b - a) (drains_in a b)

  -- the greatest excess of the runs that end at i
  pub record GreatestEnding (i p : ℕ) : Type 0 where
    pub bound : (a : ℕ) → a ≤ i → excess a i ≤ℤ pos p
    pub met : (a : ℕ) × (a ≤ i) × (excess a i ≡ pos p)

  -- D3b, B7: "The peak is the greatest excess of any unbroken run"; "A fresh state has peak 0."
  pub record GreatestExcess (p : ℕ) : Type 0 where
    pub bound : (a b : ℕ) → IsRun a b → excess a b ≤ℤ pos p
    pub met : 0 < h.packets → (a : ℕ) × (b : ℕ) × IsRun a b × (excess a b ≡ pos p)
    pub none : h.packets ≡ 0 → p ≡ 0

  -- D3c: "the network verdict passes exactly when no run's excess is above the class limit,"
  abbrev pub Fails : ℕ → ℕ → ℕ → Type 0
  Fails limit a b = pos limit <ℤ excess a b

  -- D3d: "else it names the failing run that ends first and, of those, starts last."
  pub record FirstFailing (limit first last : ℕ) : Type 0 where
    pub run : IsRun first last
    pub fails : Fails limit first last
    pub ends_first : (a b : ℕ) → IsRun a b → Fails limit a b → last ≤ b
    pub starts_last : (a : ℕ) → IsRun a last → Fails limit a last → a ≤ first

  -- D3c, V6: "pass, or burst with first and last packet of the failing run"
  abbrev pub NetworkIs : ℕ → Network → Type 0
  NetworkIs limit Pass = (a b : ℕ) → IsRun a b → ¬ Fails limit a b
  NetworkIs limit (Burst r) = FirstFailing limit r.first r.last

-- C2: Document 01's numbers for each case of the answer: "network 0 pass or 1 burst, first, last [..] 0 where there is none".
abbrev pub network_number : Network → ℕ
network_number Pass = 0
network_number (Burst r) = 1

abbrev pub network_first : Network → ℕ
network_first Pass = 0
network_first (Burst r) = r.first

abbrev pub network_last : Network → ℕ
network_last Pass = 0
network_last (Burst r) = r.last
