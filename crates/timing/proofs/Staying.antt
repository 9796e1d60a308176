-- An accepted packet keeps a state in range: each part by its own step. So
-- accepted calls stay in range, and no demand of the code is ever missed.
use Rattle.std.specs.Prelude.{◌≡◌, ◌+◌, ◌≤◌, ◌<◌}
use Rattle.laws.specs.Kit.{true, arith, mod-lt, ne_eqb}
use Rattle.laws.proofs.Choose.{pick_either}
use Rattle.packet.specs.declared.Packet.{Packet}
use Rattle.packet.specs.Paper.{marked}
use Rattle.packet.specs.Step.{first_of, since_of, number_of}
use Rattle.packet.proofs.Refusals as P
use Rattle.packet.proofs.Ranging as PR
use Rattle.bucket.proofs.Ranging as B
use Rattle.frame.specs.Step as F
use Rattle.frame.specs.Range.{FramesRowAsks, Kept}
use Rattle.frame.proofs.Ranges as R
use Rattle.timing.specs.declared.State.{State}
use Rattle.timing.specs.Step.{rules_of, gone_of, left_of, arrive_of, mark_of, step_of}
use Rattle.timing.specs.Range.{Sound}
use Rattle.timing.specs.Feed.{ArriveAsks}
use Rattle.timing.proofs.Planning.{planned, spacing_some, reach_fits}

module _ (s : State) (p : Packet) (x : Sound s) (e : number_of s.past p ≡ 0) where
  accepted : P.Accepted s.past p.time p.marker
  accepted = P.accepted s.past p.time p.marker e

  -- the first arrival, the packet's included
  first_same : 0 < s.past.packets → first_of s.past p.time ≡ s.past.first
  first_same l = rw (ne_eqb s.past.packets 0 (λ z. omega arith))

  first_order : first_of s.past p.time ≤ p.time
  first_order = PR.first_order s.past p.time p.marker x.past accepted

  -- with a marker before there is a packet before, so the times are those of the history so far
  next : s.frames.begun ≡ true → R.Next s.past.first s.past.last s.past.packets p.time
  next b = record {
    order = accepted.in_order;
    near = omega (arith, accepted.in_time, first_same (x.frames.begun b), x.past.order, accepted.in_order);
    few = accepted.few;
  }

  same : s.frames.begun ≡ true → first_of s.past p.time ≡ s.past.first
  same b = first_same (x.frames.begun b)

  -- nor are the packets farther apart than the history is long
  since_near : since_of s.past p.time ≤ 600000000000
  since_near = PR.since_near s.past p.time p.marker x.past accepted

  gone_near : gone_of s p.time ≤ 16200000000000
  gone_near = omega (arith, since_near)

  pub arrives : ArriveAsks (rules_of s.numbers) s p.time
  arrives = record {
    few = accepted.few;
    order = accepted.in_order;
    apart = spacing_some s.numbers x.accepted;
    since = since_near;
    reach = reach_fits s.numbers x.accepted (since_of s.past p.time) s.rest since_near x.rest;
    level = x.bucket.level;
    planned = planned s.numbers x.accepted;
    push = R.pushable (rules_of s.numbers).plan s.frames s.past.first s.past.last s.past.packets
        (gone_of s p.time) p.time
        (planned s.numbers x.accepted) x.frames gone_near next;
  }

  kept_arrived : Kept (rules_of s.numbers).plan (F.arrive_of (rules_of s.numbers).plan s.frames (gone_of s p.time) p.time p.stamp)
      (first_of s.past p.time) p.time (s.past.packets + 1)
  kept_arrived = R.kept_arrive (rules_of s.numbers).plan s.frames s.past.first s.past.last s.past.packets
      (gone_of s p.time) p.time
      (planned s.numbers x.accepted) x.frames p.stamp (first_of s.past p.time) gone_near next accepted.in_order same first_order

  pub sound_arrived : Sound (arrive_of (rules_of s.numbers) s p.time p.stamp)
  unfolding arrive_of
  sound_arrived = record {
    accepted = x.accepted;
    past = PR.ranged_next s.past p.time p.marker x.past accepted;
    bucket = B.ranged_step s.bucket s.past.packets _ _ x.bucket;
    rest = mod-lt (left_of (rules_of s.numbers) s p.time) (spacing_some s.numbers x.accepted);
    frames = kept_arrived;
  }

  pub few_closed : (arrive_of (rules_of s.numbers) s p.time p.stamp).frames.closed ≤ 1000000000
  unfolding arrive_of F.arrive_of
  few_closed = omega (arith, x.frames.closed, accepted.few)

  -- the frame that a marker closes leaves room for one more
  one_more : (F.arrive_of (rules_of s.numbers).plan s.frames (gone_of s p.time) p.time p.stamp).closed + 1 ≤ s.past.packets + 1
  unfolding F.arrive_of
  one_more = omega (arith, x.frames.closed)

  sound_marked : Sound (mark_of (rules_of s.numbers) (arrive_of (rules_of s.numbers) s p.time p.stamp) p.time)
  unfolding mark_of arrive_of
  sound_marked =
      let a = sound_arrived in
      record {
        accepted = a.accepted;
        past = a.past;
        bucket = a.bucket;
        rest = a.rest;
        frames = R.kept_close (rules_of s.numbers).plan
            (F.arrive_of (rules_of s.numbers).plan s.frames (gone_of s p.time) p.time p.stamp)
            (first_of s.past p.time) p.time (s.past.packets + 1) kept_arrived one_more first_order;
      }

  pub sound_step : Sound (step_of (rules_of s.numbers) s p)
  unfolding step_of
  sound_step = pick_either Sound (marked p) (λ z. sound_marked) (λ z. sound_arrived)

  -- a row can be made of the frame that the packet closes
  pub rows_made : (arrive_of (rules_of s.numbers) s p.time p.stamp).frames.begun ≡ true
      → FramesRowAsks (rules_of s.numbers).plan (arrive_of (rules_of s.numbers) s p.time p.stamp).frames
      (arrive_of (rules_of s.numbers) s p.time p.stamp).past.packets
  unfolding arrive_of F.arrive_of
  rows_made b = R.rowable (rules_of s.numbers).plan s.frames s.past.first s.past.last s.past.packets
      (gone_of s p.time) p.time
      (planned s.numbers x.accepted) x.frames p.stamp (first_of s.past p.time) gone_near next accepted.in_order same first_order b
