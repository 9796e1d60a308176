-- Arrivals with offset k are those with offset 0, k seconds later, and all else is the same. By the records.
use Rattle.std.specs.Prelude.{◌≡◌, ◌+◌, ◌*◌, Some, None}
use Rattle.laws.specs.Kit.{refl, Bool, true, false, List, ℕ, zero, suc, arith, eqb, length, drop}
use Rattle.laws.specs.Choose.{pick}
use Rattle.headers.specs.Paper.{Handed}
use Rattle.headers.specs.Step.{handed_of}
use Rattle.capture.specs.declared.Format.{Format}
use Rattle.capture.specs.Paper.{record_bytes, seconds_at, sub_at, captured_at, frame_at, arrival_of, cut_short, late, found_by, found_at, done}
use Rattle.capture.specs.Paper.{stopped, none, more, records_by, records_in, later, all_later, later_all, asked}

module _ (f : Format) (port k : ℕ) where
  arrival_later : (seconds sub : ℕ) → arrival_of (asked f port k) seconds sub ≡ arrival_of (asked f port 0) seconds sub + k * 1000000000
  arrival_later seconds sub = omega arith

  found_later : (l : List ℕ) → found_at (asked f port k) l ≡ later k (found_at (asked f port 0) l)
  found_later l = go (handed_of (frame_at f l) (length (frame_at f l)) port)
    where
      go : (h : Handed) → found_by (arrival_of (asked f port k) (seconds_at f l) (sub_at f l)) h
          ≡ later k (found_by (arrival_of (asked f port 0) (seconds_at f l) (sub_at f l)) h)
      go (Some r) = rw (arrival_later (seconds_at f l) (sub_at f l))
      go None = refl

  records_later : (n : ℕ) (l : List ℕ) → records_by n (asked f port k) l ≡ later_all k (records_by n (asked f port 0) l)
  unfolding records_by all_later
  records_later zero l = refl
  records_later (suc n) l =
      go (eqb (length l) 0) (cut_short f l) (late f l) (records_later n (drop (record_bytes + captured_at f l) l))
    where
      go : (a b c : Bool)
          → records_by n (asked f port k) (drop (record_bytes + captured_at f l) l)
          ≡ later_all k (records_by n (asked f port 0) (drop (record_bytes + captured_at f l) l))
          → pick a (none done) (pick b (none (stopped 31)) (pick c (none (stopped 32))
          (more (found_at (asked f port k) l) (records_by n (asked f port k) (drop (record_bytes + captured_at f l) l)))))
          ≡ later_all k (pick a (none done) (pick b (none (stopped 31)) (pick c (none (stopped 32))
          (more (found_at (asked f port 0) l) (records_by n (asked f port 0) (drop (record_bytes + captured_at f l) l))))))
      go true b c ih = refl
      go false true c ih = refl
      go false false true ih = refl
      go false false false ih = rw (found_later l, ih)

  -- R13: "The offset: arrivals with offset k are those with 0 plus k seconds."
  pub offset_adds : (l : List ℕ) → records_in (asked f port k) l ≡ later_all k (records_in (asked f port 0) l)
  offset_adds l = records_later (length l) l
