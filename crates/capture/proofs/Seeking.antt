-- Packet by packet: the search for the next packet finds the first of those handed on, and what is left behind it are the others. By the
-- records that are passed over.
use Rattle.std.specs.Prelude.{◌≡◌, ◌∷◌, ◌+◌, ◌-◌, ◌≤◌, ◌<◌, Some, None, Ok, Err}
use Rattle.laws.specs.Kit.{refl, sym, ap, subst, ◌∙◌, true, List, [], ℕ, zero, suc, arith, length, take, drop}
use Rattle.std.proofs.lemmas.List.{take_rest}
use Rattle.laws.specs.Kit.{length-drop, drop-drop, drop_of_length-le, eq-eqb}
use Rattle.packet.specs.declared.Packet as packet
use Rattle.capture.specs.declared.Setting.{Setting}
use Rattle.capture.specs.declared.Told.{Told}
use Rattle.capture.specs.declared.Told.TheVariants.{Packet, Skipped, Late}
use Rattle.capture.specs.Step.{FrontRead, front_record, front_end, Sought, sought_at}
use Rattle.capture.specs.declared.Front.TheVariants as front
use Rattle.capture.specs.Paper.{record_bytes, Records, handed_on, records_in}
use Rattle.capture.specs.Step.{front_of, tell_by, handed_in, sought_by, seek_front, seek_by, sought_of, found_of}
use Rattle.capture.proofs.Records.{Says, front_says, records_end, whole_size, whole_record}

-- ---- what is found

abbrev pub Finds : Setting → ℕ → List ℕ → Sought → Type 0
Finds p at l (Some r) = (n : ℕ) × (r.next ≡ at + n) × (0 < n) × (n ≤ length l) × (handed_in p l ≡ r.packet ∷ handed_in p (drop n l))
Finds p at l None = handed_in p l ≡ []

handed_told : (p : Setting) (l : List ℕ) {told : Told} {size : ℕ} → front_of p l true ≡ front_record told size
    → handed_in p l ≡ handed_on (tell_by told (records_in p (drop size l))).found
handed_told p l e = ap (λ (r : Records). handed_on r.found) (whole_record p l e)

module _ (p : Setting) where
  pub seek_finds : (k at : ℕ) (l : List ℕ) → length l ≤ k → Finds p at l (seek_by k p at l)
  unfolding seek_by handed_on
  seek_finds zero at l h = ap (λ (r : Records). handed_on r.found) (records_end p l (omega arith))
  seek_finds (suc k) at l h =
      go (front_of p l true) refl (front_says p l true) (λ a m q. seek_finds k a m q)
    where
      further : {told : Told} {size : ℕ} → front_of p l true ≡ front_record told size → told ≡ Skipped
          → (r : Sought) → Finds p (at + size) (drop size l) r → Finds p at l r
      further {told} {size} e f (Some r) (n, there, some, within, more) =
          let w = whole_size p l e in (
            size + n,
            omega arith,
            omega arith,
            omega (arith, length-drop size l),
            handed_told p l e ∙ rw f (more ∙ ap (λ (m : List ℕ). r.packet ∷ handed_in p m) (drop-drop n size l)),
          )
      further {told} {size} e f None more = handed_told p l e ∙ rw f more

      go : (f : FrontRead) → front_of p l true ≡ f → Says p l true f
          → ((a : ℕ) (m : List ℕ) → length m ≤ k → Finds p a m (seek_by k p a m)) → Finds p at l (seek_front (seek_by k p) at l f)
      go (Ok (front.Record (Packet q) size)) e s ih =
          let w = whole_size p l e in (size, refl, omega (arith, w.0), w.1, handed_told p l e)
      go (Ok (front.Record Skipped size)) e s ih =
          let w = whole_size p l e in
          further e refl (seek_by k p (at + size) (drop size l)) (ih (at + size) (drop size l) (omega (arith, w.0, w.1, length-drop size l)))
      go (Ok (front.Record Late size)) e s ih = handed_told p l e
      go (Ok front.End) e s ih = ap (λ (r : Records). handed_on r.found) (records_end p l s.1)
      go (Ok front.More) e s ih = let z : ◌≡◌ {A = ℕ} 0 1 = (let t = s.0 in cc) in absurd (omega arith)
      go (Err r') e s ih = ap (λ (r : Records). handed_on r.found) s.1

-- the next packet of a whole file, from an offset within it on
pub sought_finds : (p : Setting) (at : ℕ) (s : List ℕ) → Finds p at (drop at s) (sought_of p at s)
unfolding sought_of
sought_finds p at s = seek_finds p (length (drop at s)) at (drop at s) (omega arith)

-- a packet that was sought is the first of those that are left; or none is left
pub sought_cons : (p : Setting) (at : ℕ) (s : List ℕ) {q : packet.Packet} {next : ℕ} → sought_of p at s ≡ sought_at q next
    → (handed_in p (drop at s) ≡ q ∷ handed_in p (drop next s)) × (at < next) × (next ≤ length s)
sought_cons p at s {q} {next} e = go (subst (Finds p at (drop at s)) e (sought_finds p at s))
  where
    go : Finds p at (drop at s) (sought_at q next)
        → (handed_in p (drop at s) ≡ q ∷ handed_in p (drop next s)) × (at < next) × (next ≤ length s)
    go (n, there, some, within, more) = (
      more ∙ rw (drop-drop n at s, there),
      omega arith,
      omega (arith, length-drop at s),
    )

pub sought_none : (p : Setting) (at : ℕ) (s : List ℕ) → sought_of p at s ≡ None → handed_in p (drop at s) ≡ []
sought_none p at s e = subst (Finds p at (drop at s)) e (sought_finds p at s)

-- ---- one turn of the search

module _ (p : Setting) where
  front_none : (l : List ℕ) → length l ≡ 0 → front_of p l true ≡ front_end
  unfolding front_of
  front_none l h = rw (eq-eqb (length l) 0 h)

  -- any number of steps that is enough
  seek_same : (k j at : ℕ) (l : List ℕ) → length l ≤ k → length l ≤ j → seek_by k p at l ≡ seek_by j p at l
  unfolding seek_by
  seek_same zero zero at l h g = refl
  seek_same zero (suc j) at l h g = rw (front_none l (omega arith))
  seek_same (suc k) zero at l h g = rw (front_none l (omega arith))
  seek_same (suc k) (suc j) at l h g = go (front_of p l true) refl (λ a m q r. seek_same k j a m q r)
    where
      go : (f : FrontRead) → front_of p l true ≡ f
          → ((a : ℕ) (m : List ℕ) → length m ≤ k → length m ≤ j → seek_by k p a m ≡ seek_by j p a m)
          → seek_front (seek_by k p) at l f ≡ seek_front (seek_by j p) at l f
      go (Ok (front.Record (Packet q) size)) e ih = refl
      go (Ok (front.Record Skipped size)) e ih =
          let w = whole_size p l e in
          let less = length-drop size l in
          ih (at + size) (drop size l) (omega (arith, w.0, w.1)) (omega (arith, w.0, w.1))
      go (Ok (front.Record Late size)) e ih = refl
      go (Ok front.End) e ih = refl
      go (Ok front.More) e ih = refl
      go (Err r) e ih = refl

  module _ (at : ℕ) (s : List ℕ) where
    seek_first : at < length s → sought_of p at s ≡ seek_front (seek_by (length (drop at s)) p) at (drop at s) (front_of p (drop at s) true)
    unfolding sought_of seek_by
    seek_first h = seek_same (length (drop at s)) (suc (length (drop at s))) at (drop at s) (omega arith) (omega arith)

    pub seek_end : length s ≤ at → sought_of p at s ≡ None
    unfolding sought_of seek_by
    seek_end h = rw (drop_of_length-le s {i = at} h)

    -- by what stands in front of the rest of the file
    module _ (h : at < length s) {f : FrontRead} (e : f ≡ front_of p (take (length s - at) (drop at s)) true) where
      in_front : front_of p (drop at s) true ≡ f
      in_front = sym (e ∙ rw (take_rest s at))

      pub seek_stops : ((told : Told) (size : ℕ) → f ≡ front_record told size → ⊥) → sought_of p at s ≡ None
      seek_stops k = seek_first h ∙ rw in_front (go f k)
        where
          go : (f : FrontRead) → ((told : Told) (size : ℕ) → f ≡ front_record told size → ⊥)
              → seek_front (seek_by (length (drop at s)) p) at (drop at s) f ≡ None
          go (Ok (front.Record told size)) k = absurd (k told size refl)
          go (Ok front.End) k = refl
          go (Ok front.More) k = refl
          go (Err r) k = refl

      module _ {told : Told} {size : ℕ} (g : f ≡ front_record told size) where
        pub found_within : (record_bytes ≤ size) × (at + size ≤ length s)
        found_within = let w = whole_size p (drop at s) (in_front ∙ g) in (w.0, omega (arith, w.1, length-drop at s))

        pub seek_found : (told ≡ Skipped → ⊥) → sought_of p at s ≡ found_of told (at + size)
        unfolding found_of
        seek_found k = seek_first h ∙ rw (in_front ∙ g) (go told k)
          where
            go : (told : Told) → (told ≡ Skipped → ⊥)
                → sought_by (seek_by (length (drop at s)) p) at (drop at s) told size ≡ found_of told (at + size)
            go (Packet q) k = refl
            go Skipped k = absurd (k refl)
            go Late k = refl

        pub seek_goes : told ≡ Skipped → sought_of p at s ≡ sought_of p (at + size) s
        unfolding sought_of
        seek_goes z =
            let less = length-drop size (drop at s) in
            let next : seek_by (length (drop at s)) p (at + size) (drop size (drop at s)) ≡ sought_of p (at + size) s =
            seek_same (length (drop at s)) (length (drop size (drop at s))) (at + size) (drop size (drop at s)) (omega arith) (omega arith)
            ∙ rw (drop-drop size at s) in
            seek_first h ∙ rw (in_front ∙ g, z) next

pub ruleset seek_laws = (seek_end, seek_stops, found_within, seek_found, seek_goes)
