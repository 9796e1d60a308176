-- What the buffer answer comes to in each edition of the test plan, in the words of document 01 and of document 02, (vi). `BufferIs` is one
-- definition over the edition; that it is this in each: proofs/Editions.antt.
use Rattle.std.specs.Prelude.{◌≡◌, ◌<◌}
use Rattle.laws.specs.Kit.{true, false, ℕ}
use Rattle.frame.specs.declared.Plan.{Plan}
use Rattle.frame.specs.declared.Buffer.{Buffer}
use Rattle.frame.specs.declared.Buffer.TheVariants.{None, Pass, Under, Over, Broken}
use Rattle.frame.specs.Paper.{History, closes_at, since, kind_at, Dry, Overfull, Whole, PassIs, UnderIs, OverIs, broken_fails, FirstDecides}

module _ (plan : Plan) (h : History) where
  -- V7, E3: what packet i answered before there were editions: "none (no whole frame yet); pass; under [..]; over [..]", and nothing is broken
  abbrev pub FirstAnswerIs : ℕ → Buffer → Type 0
  FirstAnswerIs i None = ¬ Whole plan h i
  FirstAnswerIs i Pass = PassIs plan h i
  FirstAnswerIs i (Under p) = UnderIs plan h i p
  FirstAnswerIs i (Over p) = OverIs plan h i p
  FirstAnswerIs i (Broken b) = ⊥

  -- V12: "Earlier reports must come out as they did, under edition 1": the buffer answer of a history as it was
  abbrev pub FirstBufferIs : Buffer → Type 0
  FirstBufferIs b = FirstDecides FirstAnswerIs h.packets b

  -- V12: the ways to fail: the frame that packet i closes is broken, where the edition has such a frame fail; or it is whole and runs dry, or is
  -- overfull
  pub data FrameFails (i : ℕ) : Type 0 where
    broken : closes_at h i ≡ true → ¬ (kind_at plan h i ≡ 0) → broken_fails plan.edition ≡ true → FrameFails i
    dry : Whole plan h i → Dry plan h (since h i) → FrameFails i
    overfull : Whole plan h i → Overfull plan h (since h i) → FrameFails i

  -- V12: "none means no frame closed", under edition 2
  abbrev pub NoneClosed : Type 0
  NoneClosed = (i : ℕ) → i < h.packets → closes_at h i ≡ false

  -- V12: pass, under edition 2: a frame closed, and every closed frame is whole and fits
  pub record AllFit : Type 0 where
    pub some : (i : ℕ) × (i < h.packets) × (closes_at h i ≡ true)
    pub each : (i : ℕ) → i < h.packets → closes_at h i ≡ true → PassIs plan h i
