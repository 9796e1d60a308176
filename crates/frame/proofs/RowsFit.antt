-- Each number of a row fits 64 bits with its sign: no difference is longer than half a wrap of the timestamps and two frames.
use Rattle.std.specs.Prelude.{◌∷◌, ◌++◌, ◌+◌, ◌-◌, ◌≤◌, ◌<◌}
use Rattle.laws.specs.Kit.{refl, subst, List, [], ℕ, zero, suc, arith, eqb, ℤ, pos, sub_ℕ}
use Rattle.std.specs.Prelude.{◌-ℤ◌}
use Rattle.laws.specs.Kit.{get_or}
use mir.Syntax.{w64}
use mir.Val.{SFits}
use Rattle.laws.proofs.Choose.{pick_either}
use Rattle.laws.proofs.Differ.{differ_sub}
use Rattle.grain.specs.Paper.{grains, latency}
use Rattle.grain.proofs.SignedRange.{differ_fits, back_fits}
use Rattle.grain.proofs.EncodedTime.{latency_fits, offset_made, offset_read}
use Rattle.frame.specs.declared.Plan.{Plan}
use Rattle.frame.specs.declared.Frame.{Frame}
use Rattle.frame.specs.declared.Row.{Row}
use Rattle.frame.specs.Step.{kind_of, detail_of, whole_row, broken_row, row_of, numbers_of}
use Rattle.frame.specs.Range.{Planned, RowAsks}
use Rattle.frame.proofs.FrameKinds.{kind_small, detail_small}

-- ---- a list of numbers that fit

abbrev pub AllFit : List ℤ → Type 0
AllFit [] = Unit
AllFit (z ∷ zs) = SFits w64 z × AllFit zs

pub fit_append : (a b : List ℤ) → AllFit a → AllFit b → AllFit (a ++ b)
fit_append [] b h k = k
fit_append (z ∷ a) b h k = (h.0, fit_append a b h.1 k)

-- past the end stands 0
pub fit_at : (zs : List ℤ) (k : ℕ) → AllFit zs → SFits w64 (get_or zs k (pos 0))
fit_at [] k h = record { sfits = omega arith }
fit_at (z ∷ zs) zero h = h.0
fit_at (z ∷ zs) (suc k) h = fit_at zs k h.1

-- ---- a row

pub small_fits : {m : ℕ} → m ≤ 1000000000 → SFits w64 (pos m)
small_fits h = record { sfits = omega arith }

zero_fits : SFits w64 (pos 0)
zero_fits = small_fits (omega arith)

sub_fits : (a b : ℕ) → a < 9223372036854775808 → b < 9223372036854775808 → SFits w64 (sub_ℕ a b)
sub_fits a b h k = differ_fits (sub_ℕ a b) a b (differ_sub a b) h k

module _ (plan : Plan) (number marked began : ℕ) (f : Frame) (p : Planned plan) (r : RowAsks plan number marked began f) where
  abbrev g : ℕ
  g = grains f.first

  fpt_fits : SFits w64 (sub_ℕ f.phase plan.period)
  fpt_fits = sub_fits f.phase plan.period (omega (arith, r.phased, p.short)) (omega (arith, p.short))

  offset_fits : SFits w64 (sub_ℕ f.phase plan.period -ℤ latency g f.stamp)
  offset_fits =
      let within : f.phase ≤ 4294967296 = omega (arith, r.phased, p.short) in
      let short : plan.period ≤ 4294967296 = omega (arith, p.short) in
      let vl_fits = latency_fits g f.stamp in
      subst (SFits w64) (offset_read g f.stamp f.phase plan.period within short refl refl fpt_fits vl_fits)
      (back_fits (offset_made g f.stamp f.phase plan.period within short refl refl fpt_fits vl_fits))

  margin_fits : SFits w64 (sub_ℕ (plan.tro + plan.period) f.phase)
  margin_fits = sub_fits (plan.tro + plan.period) f.phase (omega (arith, p.early, p.short)) (omega (arith, r.phased, p.short))

  gap_fits : SFits w64 (pos (grains (f.first - marked)))
  gap_fits = record { sfits = omega (arith, r.near) }

  least_fits : SFits w64 (sub_ℕ 0 f.deficit)
  least_fits = sub_fits 0 f.deficit (omega arith) (omega (arith, r.low))

  whole_fits : AllFit (numbers_of (whole_row plan number marked began f))
  unfolding whole_row
  whole_fits =
      let own = small_fits r.counted in
      let peak = small_fits r.top in
      let place = small_fits r.placed in
      (own, (zero_fits, (zero_fits, (fpt_fits, (offset_fits, (latency_fits g f.stamp, (margin_fits, (gap_fits, (peak, (least_fits, (place, tt)))))))))))

  broken_fits : (kind : ℕ) → kind ≤ 3 → AllFit (numbers_of (broken_row number kind (detail_of f kind) began))
  broken_fits kind h =
      let own = small_fits r.counted in
      let detail = small_fits (detail_small f kind r.few r.differs) in
      let kind_fits = small_fits {m = kind} (omega arith) in
      let place = small_fits r.placed in
      (own, (kind_fits, (detail, (zero_fits, (zero_fits, (zero_fits, (zero_fits, (zero_fits, (zero_fits, (zero_fits, (place, tt)))))))))))

  pub row_fits : AllFit (numbers_of (row_of plan number marked began f))
  unfolding row_of
  row_fits =
      pick_either (λ (row : Row). AllFit (numbers_of row)) (eqb (kind_of f plan.packets) 0) (λ e. whole_fits)
      (λ e. broken_fits (kind_of f plan.packets) (kind_small f plan.packets))
