-- What a version decides: by which class a file is set up, and nothing else. By reading a head that was written, whatever bytes follow it.
use Rattle.std.specs.Prelude.{◌≡◌, ◌∷◌, ◌++◌, ◌+◌, ◌<◌}
use Rattle.laws.specs.Kit.{refl, sym, ap, ◌∙◌, Bool, true, false, List, [], ℕ, zero, suc, arith, eqb, length, get_or}
use Rattle.laws.specs.Kit.{length-append, drop_at, eq-eqb, ne_eqb, ℕ_discrete}
use Rattle.laws.specs.Choose.{pick}
use Rattle.laws.proofs.Choose.{second, before}
use Rattle.limits.specs.declared.Class.TheVariants.{Narrow, NarrowLinear, Wide, Unknown}
use Rattle.limits.specs.declared.Parameters.{Parameters}
use Rattle.limits.specs.Paper.{class_of, profile_of, set_up_refusal}
use Rattle.limits.specs.Steps.{ParametersHeld}
use Rattle.packet.specs.Step.{nothing}
use Rattle.record.specs.Paper.{parameters_length, parameters_bytes, head_bytes, version_known, Heading, heading, first_class, class_in, numbers_refusal}
use Rattle.record.specs.Paper.{parameters_at, is_parameters, resolved}
use Rattle.record.specs.Paper.{format_refusal, parameters_refusal, Packets, packets_in, Reading, unread, read, reading_of, refused}
use Rattle.record.specs.Paper.{as_file, file_of}
use Rattle.record.specs.declared.FileNumbers.{FileNumbers}
use Rattle.record.specs.Layout.{parameter_record, head_of}
use Rattle.record.specs.Walk.{numbers_of}
use Rattle.record.specs.Step.{Whole}
use Rattle.record.proofs.Format.{lone_23, kind_small, length_16, there}
use Rattle.record.proofs.Reading.{reading_20, reading_stop, reading_go}
use Rattle.record.proofs.Writing.{length_head}
use Rattle.record.proofs.Fields.{ParametersBack, parameters_back}

-- ---- classes

-- F11: of version 1, document 01's table: "0 means 3", whatever the schedule
pub first_classes : (class schedule : ℕ) → class_of (class_in 1 class) schedule ≡ get_or (Wide ∷ Narrow ∷ NarrowLinear ∷ Wide ∷ []) class Unknown
unfolding class_in class_of
first_classes zero schedule = refl
first_classes (suc class) schedule = refl

-- F11: of version 2, the numbers as they are
pub second_kept : (kind : ℕ) (p : Parameters) → resolved (heading 2 kind p) ≡ p
unfolding class_in
second_kept kind p = refl

-- ---- a head that was written, and any bytes behind it

-- what its fields always hold, a version that is known and a kind that holds parameters
pub record Held (h : Heading) : Type 0 where
  pub fields : ParametersHeld h.parameters
  pub known : version_known h.version ≡ true
  pub kind : is_parameters h.kind ≡ true

-- what it reads as: set-up refuses it, or the packets follow
abbrev pub headed : Heading → List ℕ → Reading
headed h l =
    pick (eqb (numbers_refusal h) 0) (read h (packets_in nothing head_bytes l)) (unread (numbers_refusal h) 1)

pub reading_headed : (h : Heading) (l : List ℕ) → Held h → reading_of (head_of h ++ l) ≡ headed h l
reading_headed h rest held = go (ℕ_discrete (numbers_refusal h) 0)
  where
    x : Parameters
    x = h.parameters

    l : List ℕ
    l = parameter_record h.kind x ++ rest

    back : ParametersBack h.kind x l
    back = parameters_back h.kind x rest (kind_small h.kind held.kind) held.fields

    long : length (parameter_record h.kind x) ≡ parameters_bytes
    long = omega (arith, length_head h)

    format : format_refusal true l ≡ 0
    format =
        let size : length l ≡ parameters_bytes + length rest = length-append (parameter_record h.kind x) rest ∙ rw long in
        let here : Whole parameters_length h.kind l = record {
          length_read = sym back.body_16;
          kind_read = sym back.kind_is;
          some_body = omega arith;
          all_there = omega arith;
        } in
        there true l here ∙ rw (length_16 h.kind held.kind, held.kind)

    set_up : parameters_refusal h.version l ≡ numbers_refusal h
    set_up =
        second _ _ format
        ∙ ap (λ (kind : ℕ). numbers_refusal (heading h.version kind (parameters_at l))) back.kind_is
        ∙ ap (λ (q : Parameters). numbers_refusal (heading h.version h.kind q)) back.same

    go : Dec (numbers_refusal h ≡ 0) → reading_of (head_of h ++ rest) ≡ headed h rest
    go (yes e) =
        reading_go (h.version ∷ l) held.known (set_up ∙ e)
        ∙ rw (back.same, back.kind_is, drop_at (parameter_record h.kind x) rest parameters_bytes long, eq-eqb (numbers_refusal h) 0 e)
    go (no n) =
        reading_stop (h.version ∷ l) (numbers_refusal h) held.known set_up (omega arith)
        ∙ rw (ne_eqb (numbers_refusal h) 0 n)

-- ---- two files that set up alike, with the same bytes behind their heads

module _ (h k : Heading) (e : numbers_of h ≡ numbers_of k) where
  -- what cannot tell their headings apart
  abbrev pub Untold : {A : Type 0} → (Reading → A) → Type 0
  Untold f = (r : Packets) → f (read h r) ≡ f (read k r)

  headed_alike : {A : Type 0} (f : Reading → A) → Untold f → (l : List ℕ) → f (headed h l) ≡ f (headed k l)
  headed_alike f same l =
      ap (λ (x : FileNumbers). f (pick (eqb (refusal_of x) 0) (read h r) (unread (refusal_of x) 1))) e
      ∙ go (eqb (numbers_refusal k) 0) (numbers_refusal k)
    where
      r : Packets
      r = packets_in nothing head_bytes l

      refusal_of : FileNumbers → ℕ
      refusal_of x = set_up_refusal x.profile x.parameters

      go : (t : Bool) (n : ℕ) → f (pick t (read h r) (unread n 1)) ≡ f (pick t (read k r) (unread n 1))
      go true n = same r
      go false n = refl

  -- F11: tells nothing of the two files
  pub read_alike : {A : Type 0} (f : Reading → A) → Untold f → (l : List ℕ) → Held h → Held k
      → f (reading_of (head_of h ++ l)) ≡ f (reading_of (head_of k ++ l))
  read_alike f same l a b =
      ap f (reading_headed h l a) ∙ headed_alike f same l ∙ sym (ap f (reading_headed k l b))

-- a file of version 1, and that of version 2 with the class that it sets up with

pub first_held : (kind : ℕ) (p : Parameters) → is_parameters kind ≡ true → ParametersHeld p → Held (heading 1 kind p)
unfolding version_known
first_held kind p k h = record { fields = h; known = refl; kind = k }

pub second_held : (kind : ℕ) (p : Parameters) → is_parameters kind ≡ true → ParametersHeld p
    → Held (heading 2 kind (resolved (heading 1 kind p)))
unfolding version_known class_in
second_held kind p k h = record {
  fields = record {
    rate = h.rate;
    schedule = h.schedule;
    class = go p.class h.class;
    height = h.height;
    n = h.n;
    maxudp = h.maxudp;
    tro = h.tro;
  };
  known = refl;
  kind = k;
}
  where
    go : (class : ℕ) → class < 256 → first_class class < 256
    go zero h = omega arith
    go (suc class) h = h

-- F11: the two set up alike
pub first_as_second : (kind : ℕ) (p : Parameters) → let q = resolved (heading 1 kind p) in
    numbers_of (heading 1 kind p) ≡ numbers_of (heading 2 kind q)
first_as_second kind p =
    ap (λ (q : Parameters). record { profile = profile_of kind; parameters = q }) (sym (second_kept kind (resolved (heading 1 kind p))))

-- ---- the byte itself

pub other_20 : (version : ℕ) (l : List ℕ) → version_known version ≡ false → file_of (version ∷ l) ≡ refused 20 0
other_20 version l e = ap as_file (reading_20 (version ∷ l) e)

pub lone_byte : (version : ℕ) → version_known version ≡ true → file_of (version ∷ []) ≡ refused 23 1
lone_byte version e = ap as_file (reading_stop (version ∷ []) 23 e (before _ _ (omega (arith, lone_23 [] refl)) ∙ lone_23 [] refl) (omega arith))
