-- The packets of a file, one record at a time: none is left, or the first is accepted and the others follow, or it is refused.
-- By the number of records still allowed, of which as many as there are bytes is always enough.
use Rattle.std.specs.Prelude.{◌≡◌, ◌+◌, ◌-◌, ◌≤◌, ◌<◌}
use Rattle.laws.specs.Kit.{refl, sym, ap, ◌∙◌, true, false, List, ℕ, zero, suc, arith, ℕ_discrete, length}
use Rattle.laws.specs.Kit.{drop, length-drop, drop-drop, eq-eqb, ne_eqb, not-true}
use Rattle.laws.proofs.Choose.{neither}
use Rattle.packet.specs.declared.Past.{Past}
use Rattle.packet.specs.Step.{nothing, next_of}
use Rattle.record.specs.Paper.{parameters_length, packet_length, parameters_bytes, packet_bytes, head_bytes}
use Rattle.record.specs.Paper.{version_of, version_fits, body_length, kind_of, is_parameters, parameters_at, packet_at, Heading, heading}
use Rattle.record.specs.Paper.{format_refusal, parameters_refusal, packet_refusal, unread, read, reading_of}
use Rattle.record.specs.Paper.{done, stopped, none, more, packets_by, packets_in}
use Rattle.record.proofs.Format.{formed, packet_kind, length_14, length_16}

-- a record that the format accepts after the parameters is a packet's, of 16 bytes
pub record PacketHere (l : List ℕ) : Type 0 where
  pub body_14 : body_length l ≡ packet_length
  pub kind_is_2 : kind_of l ≡ 2
  pub sixteen : packet_bytes ≤ length l

pub packet_here : (l : List ℕ) → format_refusal false l ≡ 0 → PacketHere l
packet_here l e =
    let f = formed false l e in
    let k = packet_kind (kind_of l) (not-true _ f.in_place) (omega (arith, f.some_body, f.length_fits)) in
    let b : body_length l ≡ packet_length = f.length_fits ∙ rw k length_14 in
    record { body_14 = b; kind_is_2 = k; sixteen = omega (arith, f.all_there) }

-- and the first record that the format accepts is the parameters', of 18 bytes
pub record ParametersHere (l : List ℕ) : Type 0 where
  pub body_16 : body_length l ≡ parameters_length
  pub kind_holds : is_parameters (kind_of l) ≡ true
  pub eighteen : parameters_bytes ≤ length l

pub parameters_here : (l : List ℕ) → format_refusal true l ≡ 0 → ParametersHere l
parameters_here l e =
    let f = formed true l e in
    let b : body_length l ≡ parameters_length = f.length_fits ∙ length_16 (kind_of l) f.in_place in
    record { body_16 = b; kind_holds = f.in_place; eighteen = omega (arith, f.all_there) }

module _ (past : Past) (at : ℕ) (l : List ℕ) where
  by_end : (k : ℕ) → length l ≡ 0 → packets_by k past at l ≡ none done
  unfolding packets_by
  by_end zero e = refl
  by_end (suc k) e = rw (eq-eqb (length l) 0 e)

  by_stop : (k n : ℕ) → 0 < length l → packet_refusal past l ≡ n → 0 < n → packets_by (suc k) past at l ≡ none (stopped n at)
  unfolding packets_by
  by_stop k n h e p = rw (ne_eqb (length l) 0 (λ z. omega arith), e, ne_eqb n 0 (λ z. omega arith))

  by_go : (k : ℕ) → packet_refusal past l ≡ 0
      → packets_by (suc k) past at l ≡ more (packet_at l) (packets_by k (next_of past (packet_at l).time) (at + packet_bytes) (drop packet_bytes l))
  unfolding packets_by
  by_go k e =
      let h = packet_here l (neither _ _ e).0 in
      rw (ne_eqb (length l) 0 (λ z. omega (arith, h.sixteen)), eq-eqb (packet_refusal past l) 0 e, h.body_14)

-- as many records as there are bytes are enough
by_same : (j k : ℕ) (past : Past) (at : ℕ) (l : List ℕ) → length l ≤ j → length l ≤ k
    → packets_by j past at l ≡ packets_by k past at l
by_same zero k past at l a b = by_end past at l 0 (omega arith) ∙ sym (by_end past at l k (omega arith))
by_same (suc j) zero past at l a b = by_end past at l (suc j) (omega arith) ∙ sym (by_end past at l 0 (omega arith))
by_same (suc j) (suc k) past at l a b =
    go (ℕ_discrete (length l) 0) (ℕ_discrete (packet_refusal past l) 0)
    (by_same j k (next_of past (packet_at l).time) (at + packet_bytes) (drop packet_bytes l))
  where
    go : Dec (length l ≡ 0) → Dec (packet_refusal past l ≡ 0)
        → (length (drop packet_bytes l) ≤ j → length (drop packet_bytes l) ≤ k
        → packets_by j (next_of past (packet_at l).time) (at + packet_bytes) (drop packet_bytes l)
        ≡ packets_by k (next_of past (packet_at l).time) (at + packet_bytes) (drop packet_bytes l))
        → packets_by (suc j) past at l ≡ packets_by (suc k) past at l
    go (yes e) d rest = by_end past at l (suc j) e ∙ sym (by_end past at l (suc k) e)
    go (no n) (no r) rest =
        by_stop past at l j _ (omega arith) refl (omega arith) ∙ sym (by_stop past at l k _ (omega arith) refl (omega arith))
    go (no n) (yes e) rest =
        let less : (i : ℕ) → length l ≤ suc i → length (drop packet_bytes l) ≤ i = λ i m. rw length-drop (omega arith) in
        by_go past at l j e
        ∙ ap (more (packet_at l)) (rest (less j a) (less k b))
        ∙ sym (by_go past at l k e)

module _ (past : Past) (at : ℕ) (l : List ℕ) where
  pub packets_end : length l ≡ 0 → packets_in past at l ≡ none done
  packets_end e = by_end past at l (length l) e

  pub packets_stop : (n : ℕ) → 0 < length l → packet_refusal past l ≡ n → 0 < n → packets_in past at l ≡ none (stopped n at)
  packets_stop n h e p =
      let some : length l ≡ suc (length l - 1) = omega arith in
      ap (λ k. packets_by k past at l) some ∙ by_stop past at l (length l - 1) n h e p

  pub packets_go : packet_refusal past l ≡ 0
      → packets_in past at l ≡ more (packet_at l) (packets_in (next_of past (packet_at l).time) (at + packet_bytes) (drop packet_bytes l))
  packets_go e =
      let here = packet_here l (neither _ _ e).0 in
      let some : length l ≡ suc (length l - 1) = omega (arith, here.sixteen) in
      ap (λ k. packets_by k past at l) some
      ∙ by_go past at l (length l - 1) e
      ∙ ap (more (packet_at l))
      (by_same (length l - 1) (length (drop packet_bytes l)) (next_of past (packet_at l).time) (at + packet_bytes) (drop packet_bytes l)
      (rw length-drop (omega (arith, here.sixteen))) (omega arith))

  -- where nothing is refused up to the end, what is there is a packet's record, and it is accepted
  pub packets_accepted : 0 < length l → (packets_in past at l).ending ≡ done → packet_refusal past l ≡ 0
  packets_accepted some e = go (ℕ_discrete (packet_refusal past l) 0)
    where
      go : Dec (packet_refusal past l ≡ 0) → packet_refusal past l ≡ 0
      go (yes f) = f
      go (no n) =
          let stops = ap (λ r. r.ending) (packets_stop _ some refl (omega arith)) in
          let z : ◌≡◌ {A = ℕ} 0 1 = cc in omega arith

-- the file from its first byte

-- what it tells before its packets
abbrev pub heading_of : List ℕ → Heading
heading_of s = heading (version_of s) (kind_of (drop 1 s)) (parameters_at (drop 1 s))

module _ (s : List ℕ) where
  pub reading_20 : version_fits s ≡ false → reading_of s ≡ unread 20 0
  unfolding reading_of
  reading_20 v = rw v

  pub reading_stop : (n : ℕ) → version_fits s ≡ true → parameters_refusal (version_of s) (drop 1 s) ≡ n → 0 < n → reading_of s ≡ unread n 1
  unfolding reading_of
  reading_stop n v e p = rw (v, e, ne_eqb n 0 (λ z. omega arith))

  pub reading_go : version_fits s ≡ true → parameters_refusal (version_of s) (drop 1 s) ≡ 0
      → reading_of s ≡ read (heading_of s) (packets_in nothing head_bytes (drop head_bytes s))
  unfolding reading_of
  reading_go v e =
      let here = parameters_here (drop 1 s) (neither _ _ e).0 in
      rw (v, eq-eqb (parameters_refusal (version_of s) (drop 1 s)) 0 e, here.body_16, drop-drop parameters_bytes 1 s)
