-- Of a capture that is refused the C function writes nothing, whatever its number. By what is weighed.
use Rattle.std.specs.Prelude.{◌≡◌, Ok, Err}
use Rattle.laws.specs.Kit.{refl, sym, ap, List, ℕ, length}
use Rattle.timing.specs.declared.Stated.{Stated}
use Rattle.report.specs.Paper.{Answer}
use Rattle.film.specs.Step.{Weighed, weighed_of}
use Rattle.film.specs.Paper.{capture_answer, capture_filled}
use Rattle.film.proofs.Filming.{weighed_answer_lem, refused_leaves}

pub refused_fills_nothing : (x : Stated) (port offset : ℕ) (b out : List ℕ)
    → ((capture_answer x port offset b (length out)).number ≡ 0 → ⊥) → capture_filled x port offset b out ≡ out
refused_fills_nothing x port offset b out n = go (weighed_of x port offset b (length out)) refl
  where
    go : (w : Weighed) → weighed_of x port offset b (length out) ≡ w → capture_filled x port offset b out ≡ out
    go (Ok r) e = absurd (n (ap (λ (a : Answer). a.number) (weighed_answer_lem x port offset b (length out) refl e)))
    go (Err r) e = sym (refused_leaves x port offset b out (sym e))
