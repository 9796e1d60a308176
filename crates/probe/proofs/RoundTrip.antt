-- A state's words and back, both ways: reading undoes writing field by field, and only a state's own words are taken for it.
use Rattle.std.specs.Prelude.{◌≡◌, ◌%◌, ◌<◌, None, Some}
use Rattle.laws.specs.Kit.{refl, sym, ap, ◌∙◌, Bool, true, false, List, ℕ, arith, mod-eq_of_lt, eqb, length, take}
use Rattle.laws.specs.Kit.{length-take}
use Rattle.laws.specs.Choose.{pick}
use Rattle.bucket.specs.declared.Network.{Network}
use Rattle.bucket.specs.declared.Network.TheVariants.{Pass, Burst}
use Rattle.bucket.specs.Paper.{network_number, network_first, network_last}
use Rattle.frame.specs.declared.Buffer.{Buffer}
use Rattle.frame.specs.declared.Buffer.TheVariants.{None as NoBuffer, Under, Over, Broken, Pass as BufferPass}
use Rattle.frame.specs.Paper.{buffer_number, buffer_frame, buffer_place}
use Rattle.timing.specs.declared.State.{State}
use Rattle.laws.specs.Every.{flag}
use Rattle.limits.specs.declared.Parameters.{Parameters}
use Rattle.limits.specs.declared.Profile.{Profile}
use Rattle.limits.specs.declared.Profile.TheVariants.{Video, Compressed, Interlaced}
use Rattle.limits.specs.Paper.{profile_kind, profile_of, given}
use Rattle.limits.specs.Steps.{ParametersHeld}
use Rattle.probe.specs.Words.{state_words, words_of, network_in, buffer_in, state_in, same, state_held_by}
use Rattle.probe.proofs.Alike.{alike, alike_only, unequal}

-- ---- what the comparison says of the words

held_by : (w : List ℕ) {t : Bool} → same (words_of (state_in w)) w ≡ t → state_held_by w ≡ pick t (Some (state_in w)) None
unfolding state_held_by
held_by w e = rw e

-- words that were read, written again and compared
module _ (w : List ℕ) {s : State} {again : List ℕ} {t : Bool} (r : s ≡ state_in w) (a : again ≡ words_of s) (c : t ≡ same again w) where
  compared : same (words_of (state_in w)) w ≡ t
  compared = sym (c ∙ ap (λ (l : List ℕ). same l w) (a ∙ ap words_of r))

  pub held_known : t ≡ true → Some s ≡ state_held_by w
  held_known e = ap Some r ∙ sym (held_by w (compared ∙ e))

  pub held_nothing : t ≡ false → None ≡ state_held_by w
  held_nothing e = sym (held_by w (compared ∙ e))

pub length_words : (s : State) → length (words_of s) ≡ state_words
unfolding words_of
length_words s = refl

pub too_few : (words : List ℕ) → length words < state_words → state_held_by (take state_words words) ≡ None
too_few words h =
    let w = take state_words words in
    held_by w (unequal (words_of (state_in w)) w (λ e. omega (arith, length_words (state_in w), length-take state_words words)))

-- ---- reading undoes writing

-- a state whose numbers fit, those that have fewer than 64 bits
pub record Narrow (s : State) : Type 0 where
  pub numbers : ParametersHeld s.numbers.parameters
  pub edition : s.numbers.edition < 4294967296
  pub stamp : s.frames.current.stamp < 4294967296

network_again : (x : Network) → network_in (network_number x) (network_first x) (network_last x) ≡ x
network_again Pass = refl
network_again (Burst r) = refl

buffer_again : (x : Buffer) → buffer_in (buffer_number x) (buffer_frame x) (buffer_place x) ≡ x
buffer_again NoBuffer = refl
buffer_again BufferPass = refl
buffer_again (Under p) = refl
buffer_again (Over p) = refl
buffer_again (Broken b) = refl

profile_again : (p : Profile) → profile_of (profile_kind p % 256) ≡ p
unfolding profile_of
profile_again Video = refl
profile_again Compressed = refl
profile_again Interlaced = refl

flag_again : (b : Bool) → eqb (flag b) 1 ≡ b
flag_again true = refl
flag_again false = refl

numbers_again : (p : Parameters) → ParametersHeld p
    → given (p.rate % 256) (p.schedule % 256) (p.class % 256) (p.height % 65536) (p.n % 4294967296) (p.maxudp % 65536)
    (p.tro % 4294967296)
    ≡ p
numbers_again p f =
    rw (
      mod-eq_of_lt f.rate,
      mod-eq_of_lt f.schedule,
      mod-eq_of_lt f.class,
      mod-eq_of_lt f.height,
      mod-eq_of_lt f.n,
      mod-eq_of_lt f.maxudp,
      mod-eq_of_lt f.tro,
    )

read_again : (s : State) → Narrow s → state_in (words_of s) ≡ s
unfolding state_in words_of
read_again s f =
    rw (
      numbers_again s.numbers.parameters f.numbers,
      mod-eq_of_lt f.edition,
      profile_again s.numbers.profile,
      mod-eq_of_lt f.stamp,
      network_again s.bucket.network,
      buffer_again s.frames.buffer,
      flag_again s.frames.begun,
    )

-- a state's words hold it
pub words_hold : (s : State) → Narrow s → state_held_by (words_of s) ≡ Some s
words_hold s f =
    let again = read_again s f in
    held_by (words_of s) (ap (λ (t : State). same (words_of t) (words_of s)) again ∙ alike (words_of s)) ∙ ap Some again

-- ---- and only they do

pub only_words_hold : (w : List ℕ) (s : State) → state_held_by w ≡ Some s → w ≡ words_of s
unfolding state_held_by
only_words_hold w s e = go (same (words_of (state_in w)) w) refl e
  where
    go : (t : Bool) → same (words_of (state_in w)) w ≡ t → pick t (Some (state_in w)) None ≡ Some s → w ≡ words_of s
    go true q e = let is : state_in w ≡ s = cc in sym (alike_only (words_of (state_in w)) w q) ∙ ap words_of is
    go false q e = let z : ◌≡◌ {A = ℕ} 0 1 = cc in absurd (omega arith)
