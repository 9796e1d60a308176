-- A packet's record that stands whole in front, seen at once: it is what the reader answers there. By its length, its body's
-- length and its kind, which are all that the format looks at.
use Rattle.std.specs.Prelude.{◌≡◌, ◌&&◌, ◌+◌, ◌*◌, ◌/◌, ◌≤◌, ◌<◌}
use Rattle.laws.specs.Kit.{refl, sym, ap, ◌∙◌, Bool, true, false, List, ℕ, arith, leb, eqb, length}
use Rattle.laws.specs.Kit.{eq-eqb, ne_eqb, le-leb, lt-leb, leb-true, eqb-true, eqb-false, get_or}
use Rattle.endian.specs.Number.{number_at}
use Rattle.endian.proofs.Width.{number_byte, number_halves}
use Rattle.laws.proofs.Choose.{false_true}
use Rattle.record.specs.Paper.{packet_length, packet_bytes, body_length, kind_of}
use Rattle.record.specs.Step.{after, packet_of, whole_of, next_by, next_piece, stands_in, Whole}
use Rattle.record.proofs.Format.{packet_2, length_14, framed_whole}

-- a number of two bytes and one of one, in front of a last byte
three : (body kind last : ℕ) → kind < 256 → last < 256
    → eqb ((body * 65536 + (kind * 256 + last)) / 256) 3586 ≡ eqb body packet_length && eqb kind 2
three body kind last h k = go (eqb body packet_length) (eqb kind 2) refl refl
  where
    whole : (body * 65536 + (kind * 256 + last)) / 256 ≡ body * 256 + kind
    whole = omega arith

    go : (a b : Bool) → eqb body packet_length ≡ a → eqb kind 2 ≡ b
        → eqb ((body * 65536 + (kind * 256 + last)) / 256) 3586 ≡ a && b
    go true true e f = eq-eqb _ _ (omega (arith, eqb-true body packet_length e, eqb-true kind 2 f))
    go true false e f = ne_eqb _ _ (λ w. omega (arith, eqb-true body packet_length e, eqb-false kind 2 f, w))
    go false b e f = ne_eqb _ _ (λ w. omega (arith, eqb-false body packet_length e, w))

module _ (l : List ℕ) where
  pub no_room : length l < packet_bytes → false ≡ stands_in l
  unfolding stands_in
  no_room h = sym (rw (lt-leb packet_bytes (length l) h))

  -- its first three bytes, as they stand in front of a number of four
  pub by_front : packet_bytes ≤ length l → kind_of l < 256 → get_or l 3 0 < 256 → eqb (number_at 4 l 0 / 256) 3586 ≡ stands_in l
  unfolding stands_in
  by_front h k b =
      let two : number_at 2 l 2 ≡ kind_of l * 256 + get_or l 3 0 =
      number_halves 1 1 l 2 (omega arith) ∙ rw (number_byte l 2, number_byte l 3) refl in
      let four : number_at 4 l 0 ≡ body_length l * 65536 + (kind_of l * 256 + get_or l 3 0) =
      number_halves 2 2 l 0 (omega arith) ∙ ap (λ (n : ℕ). body_length l * 65536 + n) two in
      rw (four, le-leb packet_bytes (length l) h) (three (body_length l) (kind_of l) (get_or l 3 0) k b)

  pub record Stands : Type 0 where
    pub sixteen : packet_bytes ≤ length l
    pub body : body_length l ≡ packet_length
    pub kind : kind_of l ≡ 2

  both : (a b : Bool) → a && b ≡ true → (a ≡ true) × (b ≡ true)
  both true b e = (refl, e)
  both false b e = absurd (false_true e)

  pub stands : stands_in l ≡ true → Stands
  unfolding stands_in
  stands e =
      let room = both (leb packet_bytes (length l)) (eqb (body_length l) packet_length && eqb (kind_of l) 2) e in
      let rest = both (eqb (body_length l) packet_length) (eqb (kind_of l) 2) room.1 in
      record {
        sixteen = leb-true packet_bytes (length l) room.0;
        body = eqb-true (body_length l) packet_length rest.0;
        kind = eqb-true (kind_of l) 2 rest.1;
      }

  -- the answer is the packet, whatever comes after it
  pub stands_packet : (at : ℕ) (last : Bool) → Stands → packet_of l (after at packet_bytes) ≡ next_piece at l last
  unfolding next_piece whole_of
  stands_packet at last s =
      let here : Whole packet_length 2 l = record {
        length_read = sym s.body;
        kind_read = sym s.kind;
        some_body = omega arith;
        all_there = omega (arith, s.sixteen);
      } in
      sym (ap (next_by at l) (framed_whole l last here) ∙ rw (length_14, packet_2))
