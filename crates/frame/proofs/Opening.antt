-- A frame whose times are set: what holds of it before its next packet is counted, so that every product fits.
use Rattle.std.specs.Prelude.{◌≡◌, ◌*◌, ◌≤◌, ◌<◌}
use Rattle.laws.specs.Kit.{sym, ap, subst, Bool, true, false, ℕ, arith, mul-le-mul, mul-le-mul_right, eqb}
use Rattle.laws.specs.Choose.{pick}
use Rattle.laws.proofs.Choose.{pick_either}
use Rattle.grain.specs.Paper.{grains}
use Rattle.grain.specs.Carry.{ReadsAsks}
use Rattle.grain.proofs.Rounding.{phase_small}
use Rattle.grain.proofs.Extremes.{reads_fit}
use Rattle.frame.specs.declared.Plan.{Plan}
use Rattle.frame.specs.declared.Frame.{Frame}
use Rattle.frame.specs.Step.{first_read_of, opened_of, gone_of, reads_of, counted_of, ticked_of, push_of}
use Rattle.frame.specs.declared.Most.{Most}
use Rattle.frame.specs.Range.{Planned, PushAsks, kept_most, most_of}

pub record Timed (plan : Plan) (f : Frame) (gone : ℕ) : Type 0 where
  pub few : f.held < 1000000000
  pub near : gone ≤ 16200000000000
  pub phased : f.phase ≤ 2 * plan.period
  pub read : f.reads ≤ plan.packets
  pub waits : f.wait ≤ 2 * plan.period * plan.reads.den

module _ (plan : Plan) (p : Planned plan) where
  -- read 0 lies two periods after its period's start at most
  pub first_read_fits : first_read_of plan * plan.reads.den ≤ 2 * plan.period * plan.reads.den
  first_read_fits = mul-le-mul_right plan.reads.den (let l : first_read_of plan ≤ 2 * plan.period = omega (arith, p.early) in l)

  pub bound_fits : 2 * plan.period * plan.reads.den ≤ 2147483648000000
  bound_fits =
      let l : 2 * plan.period ≤ 4294967296 = omega (arith, p.short) in
      omega (arith, mul-le-mul l p.divided)

  module _ (f : Frame) (t stamp : ℕ) where
    phase_fits : f.phase ≤ 2 * plan.period → (opened_of plan f t stamp).phase ≤ 2 * plan.period
    unfolding opened_of
    phase_fits h =
        pick_either (λ x. x ≤ 2 * plan.period) (eqb f.held 0)
        (λ e. omega (arith, p.long, phase_small (grains t) plan.period (omega (arith, p.long)))) (λ e. h)

    pub wait_fits : f.wait ≤ 2 * plan.period * plan.reads.den → (opened_of plan f t stamp).wait ≤ 2 * plan.period * plan.reads.den
    unfolding opened_of
    wait_fits h = pick_either (λ x. x ≤ 2 * plan.period * plan.reads.den) (eqb f.held 0) (λ e. first_read_fits) (λ e. h)

    pub timed : (gone : ℕ) → PushAsks plan f gone → Timed plan (opened_of plan f t stamp) gone
    unfolding opened_of
    timed gone h = record {
      few = h.few;
      near = h.near;
      phased = phase_fits h.phased;
      read = h.read;
      waits = wait_fits h.waits;
    }

module _ {plan : Plan} {f g : Frame} {gone : ℕ} (t stamp : ℕ) (e : g ≡ opened_of plan f t stamp) (p : Planned plan)
    (h : PushAsks plan f gone) where
  pub opened_timed : Timed plan g gone
  opened_timed = subst (λ (x : Frame). Timed plan x gone) (sym e) (timed plan p f t stamp gone h)

  -- 600 s, or two periods for the first
  gone_fits : gone_of g gone ≤ 16204294967296
  gone_fits =
      pick_either (λ x. x ≤ 16204294967296) (eqb g.held 0) (λ z. omega (arith, opened_timed.phased, p.short))
      (λ z. omega (arith, opened_timed.near))

  pub reach_fits : ReadsAsks g.reads g.wait plan.packets plan.reads.num (gone_of g gone * plan.reads.den)
  reach_fits = record {
    apart = p.apart;
    among = opened_timed.read;
    goes = reads_fit g.reads (gone_of g gone) plan.reads.den plan.reads.num (omega (arith, opened_timed.read, p.few)) gone_fits
        p.divided (omega (arith, p.near, p.short));
    waits = omega (arith, opened_timed.waits, bound_fits plan p, p.near, p.short);
  }

-- what a push is, by whether the buffer is judged
module _ (plan : Plan) (f : Frame) (gone t stamp : ℕ) where
  abbrev o : Frame
  o = opened_of plan f t stamp

  abbrev by : Bool → Frame
  by judged = pick judged (counted_of o stamp (reads_of plan o gone)) (ticked_of o stamp)

  pub push_judged : plan.buffered ≡ true → counted_of o stamp (reads_of plan o gone) ≡ push_of plan f gone t stamp
  push_judged e = ap by (sym e)

  pub push_unjudged : plan.buffered ≡ false → ticked_of o stamp ≡ push_of plan f gone t stamp
  push_unjudged e = ap by (sym e)

-- and what a state may hold of reads
module _ (plan : Plan) (held : ℕ) where
  abbrev bounds : Bool → Most
  bounds judged = record {
    reads = kept_most judged plan.packets;
    wait = kept_most judged (2 * plan.period * plan.reads.den);
    held = kept_most judged held;
    number = kept_most judged 4;
  }

  pub most_judged : plan.buffered ≡ true → bounds true ≡ most_of plan held
  most_judged e = ap bounds (sym e)

  pub most_unjudged : plan.buffered ≡ false → bounds false ≡ most_of plan held
  most_unjudged e = ap bounds (sym e)
