-- The header of a whole capture: no more will come, so that what `open` answers is what the header says.
use Rattle.std.specs.Prelude.{◌≡◌, Option, Some, None, Result, Ok, Err, refl}
use Rattle.laws.specs.Kit.{◌∙◌, Bool, true, false, List, ℕ, ltb, length}
use Rattle.std.specs.Result.{result_unwrap_or}
use Rattle.laws.specs.Choose.{pick}
use Rattle.refusal.specs.declared.Refusal.{Refusal}
use Rattle.refusal.specs.Told.{by_number}
use Rattle.capture.specs.declared.Format.{Format}
use Rattle.capture.specs.Paper.{header_bytes, header_of}
use Rattle.capture.specs.Step.{format_in, opened_by, opened_of}

pub opened_whole : (s : List ℕ) → opened_of s true ≡ opened_by (format_in (header_of s))
unfolding opened_of header_of
opened_whole s = go (ltb (length s) header_bytes) refl
  where
    go : (t : Bool) → ltb (length s) header_bytes ≡ t
        → pick t (Err 30) (opened_by (format_in (header_of s))) ≡ opened_by (format_in (header_of s))
    go true e = rw e
    go false e = refl

-- the format of an answer, or none where it is refused
pub format_opened : (s : List ℕ) (r : Result (Option Format) Refusal) → by_number r ≡ opened_of s true
    → result_unwrap_or r None ≡ format_in (header_of s)
format_opened s r e = go r (format_in (header_of s)) (e ∙ opened_whole s)
  where
    go : (r : Result (Option Format) Refusal) (f : Option Format) → by_number r ≡ opened_by f → result_unwrap_or r None ≡ f
    go (Ok a) (Some f) q = cc
    go (Ok a) None q = absurd (cc)
    go (Err x) (Some f) q = absurd (cc)
    go (Err x) None q = refl
