-- However a capture is cut into windows, the reader gives what the whole gives: what it says of a window and what is left for later are,
-- together, the rest of the file from where it stood. By what was told, and by the bytes that are still to pass.
use Rattle.std.specs.Prelude.{◌≡◌, ◌++◌, ◌+◌, ◌-◌, ◌≤◌, ◌<◌, Ok, Err}
use Rattle.laws.specs.Kit.{refl, sym, ap, ◌∙◌, Bool, true, false, List, [], append-nil, ℕ, arith, ltb}
use Rattle.laws.specs.Kit.{eqb, length, drop, length-append, drop-append-le, drop-length, dec_le, eq-eqb, ne_eqb, lt-ltb, le-ltb, eqb-true}
use Rattle.laws.specs.Kit.{eqb-false, ltb-true, ltb-false}
use lib.Seq.{drop-append-add}
use Rattle.laws.proofs.Choose.{pick_either}
use Rattle.headers.specs.Step.{matter}
use Rattle.capture.specs.declared.Setting.{Setting}
use Rattle.capture.specs.declared.Told.{Told}
use Rattle.capture.specs.declared.Told.TheVariants.{Packet, Skipped, Late}
use Rattle.capture.specs.Step.{FrontRead, front_record, NextRead}
use Rattle.capture.specs.declared.Front.TheVariants as front
use Rattle.capture.specs.declared.Cursor.{Cursor}
use Rattle.capture.specs.declared.Next.TheVariants as next
use Rattle.capture.specs.Paper.{record_bytes, stopped, none, records_in}
use Rattle.capture.specs.Step.{front_of, between, settled_by, passed_of, begun_by, next_of, tell_by, rest_from}
use Rattle.capture.specs.Pieces.{Keeps}
use Rattle.capture.proofs.Records.{Says, front_says, records_end, size_some, record_there, record_cut}

-- ---- the rest of a file from a cursor on

module _ (p : Setting) (c : Cursor) (l : List ℕ) where
  rest_between : c.left ≡ 0 → rest_from p c l ≡ records_in p l
  unfolding rest_from
  rest_between e = rw (eq-eqb c.left 0 e)

  module _ (h : 0 < c.left) where
    rest_cut : length l < c.left → rest_from p c l ≡ none (stopped 31)
    unfolding rest_from
    rest_cut k = rw (ne_eqb c.left 0 (λ z. omega arith), lt-ltb (length l) c.left k)

    rest_told : c.left ≤ length l → rest_from p c l ≡ tell_by c.told (records_in p (drop c.left l))
    unfolding rest_from
    rest_told k = rw (ne_eqb c.left 0 (λ z. omega arith), le-ltb (length l) c.left k)

-- ---- what an answer keeps

module _ (p : Setting) (w v : List ℕ) (last : Bool) (end : last ≡ true → v ≡ []) where
  ends : last ≡ true → w ++ v ≡ w
  ends l = ap (λ (x : List ℕ). w ++ x) (end l) ∙ append-nil w

  -- within a record
  module _ (c : Cursor) (h : 0 < c.left) where
    settled_keeps : c.left ≤ length w → Keeps p c w v (settled_by c.told c.left)
    settled_keeps k = go c.told refl
      where
        there : rest_from p c (w ++ v) ≡ tell_by c.told (records_in p (drop c.left w ++ v))
        there =
            rest_told p c (w ++ v) h (omega (arith, length-append w v))
            ∙ ap (λ (l : List ℕ). tell_by c.told (records_in p l)) (drop-append-le c.left w v k)

        go : (t : Told) → c.told ≡ t → Keeps p c w v (settled_by t c.left)
        go (Packet q) e = (h, k, there ∙ rw e)
        go Skipped e = (h, k, there ∙ rw e)
        go Late e = there ∙ rw e

    part_keeps : length w < c.left
        → rest_from p c (w ++ v) ≡ rest_from p (record { left = c.left - length w; told = c.told }) (drop (length w) w ++ v)
    part_keeps k = rw (drop-length w) (go (dec_le c.left (length (w ++ v))))
      where
        later : Cursor
        later = record { left = c.left - length w; told = c.told }

        go : Dec (c.left ≤ length (w ++ v)) → rest_from p c (w ++ v) ≡ rest_from p (record { left = c.left - length w; told = c.told }) v
        go (no n) =
            let long = length-append w v in
            rest_cut p c (w ++ v) h (omega arith)
            ∙ sym (rest_cut p (record { left = c.left - length w; told = c.told }) v (omega arith) (omega arith))
        go (yes q) =
            let long = length-append w v in
            let sum : length w + (c.left - length w) ≡ c.left = omega arith in
            let same : drop c.left (w ++ v) ≡ drop (c.left - length w) v =
            ap (λ (n : ℕ). drop n (w ++ v)) (sym sum) ∙ drop-append-add w v (c.left - length w) in
            rest_told p c (w ++ v) h q ∙ ap (λ (l : List ℕ). tell_by c.told (records_in p l)) same
            ∙ sym (rest_told p (record { left = c.left - length w; told = c.told }) v (omega arith) (omega arith))

    passed_keeps : Keeps p c w v (passed_of c w last)
    unfolding passed_of
    passed_keeps =
        pick_either (Keeps p c w v) (ltb (length w) c.left)
        (λ e.
        let short = ltb-true (length w) c.left e in
        pick_either (Keeps p c w v) last
        (λ l. rest_cut p c (w ++ v) h (rw (ends l) short))
        (λ l. (omega arith, part_keeps short)))
        (λ e. settled_keeps (ltb-false (length w) c.left e))

  -- a record that begins
  record_rest : {told : Told} {size : ℕ} → front_of p w last ≡ front_record told size
      → records_in p (w ++ v) ≡ rest_from p (record { left = size; told = told }) (w ++ v)
  record_rest {told} {size} e = go (dec_le size (length (w ++ v)))
    where
      some : 0 < size
      some = omega (arith, size_some p w v last e)

      go : Dec (size ≤ length (w ++ v)) → records_in p (w ++ v) ≡ rest_from p (record { left = size; told = told }) (w ++ v)
      go (yes h) =
          record_there p w v last e h ∙ sym (rest_told p (record { left = size; told = told }) (w ++ v) some h)
      go (no n) =
          record_cut p w v last e (omega arith) ∙ sym (rest_cut p (record { left = size; told = told }) (w ++ v) some (omega arith))

  carried : (c d : Cursor) (r : NextRead) → rest_from p c (w ++ v) ≡ rest_from p d (w ++ v) → Keeps p d w v r → Keeps p c w v r
  carried c d (Ok (next.Packet q used)) e k = (k.0, k.1, e ∙ k.2)
  carried c d (Ok (next.Skipped used)) e k = (k.0, k.1, e ∙ k.2)
  carried c d (Ok (next.More x used)) e k = (k.0, e ∙ k.1)
  carried c d (Ok next.End) e k = e ∙ k
  carried c d (Err n) e k = e ∙ k

  begun_keeps : (c : Cursor) → c.left ≡ 0 → Keeps p c w v (begun_by w last (front_of p w last))
  begun_keeps c z = go (front_of p w last) refl (front_says p w last)
    where
      all : rest_from p c (w ++ v) ≡ records_in p (w ++ v)
      all = rest_between p c (w ++ v) z

      go : (f : FrontRead) → front_of p w last ≡ f → Says p w last f → Keeps p c w v (begun_by w last f)
      go (Ok (front.Record told size)) e s =
          let d : Cursor = record { left = size; told = told } in
          carried c d (passed_of d w last) (all ∙ record_rest e) (passed_keeps d (omega (arith, size_some p w v last e)))
      go (Ok front.End) e s = all ∙ records_end p (w ++ v) (ap length (ends s.0) ∙ s.1)
      go (Ok front.More) e s = (omega arith, all ∙ sym (rest_between p between (w ++ v) refl))
      go (Err n) e s = all ∙ ap (records_in p) (ends s.0) ∙ s.1

  -- R14: whatever it says
  pub next_keeps : (c : Cursor) → Keeps p c w v (next_of p c w last)
  unfolding next_of
  next_keeps c =
      pick_either (Keeps p c w v) (eqb c.left 0)
      (λ e. begun_keeps c (eqb-true c.left 0 e))
      (λ e. passed_keeps c (let n = eqb-false c.left 0 e in omega arith))

-- ---- more is wanted only where less than 178 bytes are shown, or all of them are used; and never of the last

abbrev pub Waits : List ℕ → Bool → NextRead → Type 0
Waits w last (Ok (next.Packet q used)) = Unit
Waits w last (Ok (next.Skipped used)) = Unit
Waits w last (Ok (next.More d used)) = (last ≡ false) × ((used ≡ 0 → length w < record_bytes + matter) × (used ≤ length w))
Waits w last (Ok next.End) = last ≡ true
Waits w last (Err n) = Unit

pub passed_waits : (c : Cursor) (w : List ℕ) (last : Bool) → Waits w last (passed_of c w last)
unfolding passed_of
passed_waits c w last =
    pick_either (Waits w last) (ltb (length w) c.left)
    (λ e. pick_either (Waits w last) last (λ l. tt) (λ l. (l, (λ z. omega arith, omega arith))))
    (λ e. go c.told)
  where
    go : (t : Told) → Waits w last (settled_by t c.left)
    go (Packet q) = tt
    go Skipped = tt
    go Late = tt

pub next_waits : (p : Setting) (c : Cursor) (w : List ℕ) (last : Bool) → Waits w last (next_of p c w last)
unfolding next_of
next_waits p c w last =
    pick_either (Waits w last) (eqb c.left 0) (λ e. go (front_of p w last) (front_says p w last)) (λ e. passed_waits c w last)
  where
    go : (f : FrontRead) → Says p w last f → Waits w last (begun_by w last f)
    go (Ok (front.Record told size)) s = passed_waits (record { left = size; told = told }) w last
    go (Ok front.End) s = s.0
    go (Ok front.More) s = (s.0, (λ z. s.1, omega arith))
    go (Err r) s = tt
