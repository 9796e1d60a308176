-- Two rows that print alike are one: the numbers are told off the line one after the other, by recursion on them.
use Rattle.std.specs.Prelude.{◌≡◌, ◌∷◌, ◌++◌}
use Rattle.laws.specs.Kit.{refl, sym, ◌∙◌, List, [], append_assoc, arith, ℤ}
use Rattle.frame.specs.declared.Row.{Row}
use Rattle.frame.specs.Step.{numbers_of}
use Rattle.text.specs.Decimal.{codes, signed}
use Rattle.text.specs.Lines.{Sized, fields, row_line}
use Rattle.text.proofs.Read.{signed_differ}
use Rattle.text.proofs.Apart.{Stops, head_same, tail_same, part_same, after, signed_solid}

fields_stop : (zs : List ℤ) → Stops (fields zs ++ codes "\n")
unfolding fields
fields_stop [] = omega arith
fields_stop (z ∷ zs) = omega arith

fields_same : (xs ys : List ℤ) → Sized xs → Sized ys → fields xs ++ codes "\n" ≡ fields ys ++ codes "\n" → xs ≡ ys
unfolding fields
fields_same [] [] p q e = refl
fields_same [] (y ∷ ys) p q e = absurd (omega (arith, head_same e))
fields_same (x ∷ xs) [] p q e = absurd (omega (arith, head_same e))
fields_same (x ∷ xs) (y ∷ ys) p q e =
    let r = fields xs ++ codes "\n" in
    let s = fields ys ++ codes "\n" in
    let whole : signed x ++ r ≡ signed y ++ s =
    sym (append_assoc (signed x) (fields xs) (codes "\n")) ∙ tail_same e ∙ append_assoc (signed y) (fields ys) (codes "\n") in
    let both = part_same (signed x) (signed y) r s (signed_solid x) (signed_solid y) (fields_stop xs) (fields_stop ys) whole in
    let first : x ≡ y = signed_differ x y p.0 q.0 both.0 in
    let behind : xs ≡ ys = fields_same xs ys p.1 q.1 both.1 in
    cc

numbers_same : (x y : Row) → numbers_of x ≡ numbers_of y → x ≡ y
numbers_same x y e =
    let number : x.number ≡ y.number = cc in
    let kind : x.kind ≡ y.kind = cc in
    let detail : x.detail ≡ y.detail = cc in
    let fpt : x.fpt ≡ y.fpt = cc in
    let offset : x.offset ≡ y.offset = cc in
    let latency : x.latency ≡ y.latency = cc in
    let margin : x.margin ≡ y.margin = cc in
    let gap : x.gap ≡ y.gap = cc in
    let peak : x.peak ≡ y.peak = cc in
    let least : x.least ≡ y.least = cc in
    let began : x.began ≡ y.began = cc in
    λ j. record {
      number = number j;
      kind = kind j;
      detail = detail j;
      fpt = fpt j;
      offset = offset j;
      latency = latency j;
      margin = margin j;
      gap = gap j;
      peak = peak j;
      least = least j;
      began = began j;
    }

pub rows_differ : (x y : Row) → Sized (numbers_of x) → Sized (numbers_of y) → row_line x ≡ row_line y → x ≡ y
unfolding row_line
rows_differ x y p q e =
    let r = fields (numbers_of x) ++ codes "\n" in
    let s = fields (numbers_of y) ++ codes "\n" in
    numbers_same x y (fields_same (numbers_of x) (numbers_of y) p q (after (codes "frame") r s e))
