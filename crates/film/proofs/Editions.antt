-- The room of a capture's answer does not depend on the edition: what is checked does not, and the check's count of frames tells the room.
use Rattle.std.specs.Prelude.{◌≡◌, Ok, Err}
use Rattle.laws.specs.Kit.{refl, sym, ap, ◌∙◌, List, ℕ}
use Rattle.limits.specs.Paper.{profile_of}
use Rattle.limits.specs.Accepted.{KnownEdition}
use Rattle.limits.proofs.Editions.{in_known, in_one}
use Rattle.capture.specs.Paper.{Checked}
use Rattle.timing.specs.declared.Stated.{Stated}
use Rattle.timing.specs.Step.{first_stated, stated_refusal}
use Rattle.film.specs.Paper.{capture_checked, room_by, capture_room}
use Rattle.film.proofs.Filming.{checked_fine, film_long}

module _ (t : Stated) (known : KnownEdition t.edition) (port offset : ℕ) (b : List ℕ) where
  -- the same with no edition told
  abbrev plain : Stated
  plain = first_stated t.kind t.parameters

  refused_alike : stated_refusal t ≡ stated_refusal plain
  unfolding stated_refusal
  refused_alike =
      let profile = profile_of t.kind in
      rw (in_known profile t.parameters t.edition known, in_one profile t.parameters)

  checked_alike : capture_checked t port offset b ≡ capture_checked plain port offset b
  unfolding capture_checked
  checked_alike = rw refused_alike

  -- X13: the room that is told without an edition is that of each
  pub room_alike : capture_room t port offset b ≡ capture_room plain port offset b
  unfolding capture_room
  room_alike = ap (room_by t port offset b) checked_alike ∙ go (capture_checked plain port offset b) refl
    where
      go : (c : Checked) → capture_checked plain port offset b ≡ c → room_by t port offset b c ≡ room_by plain port offset b c
      go (Ok y) e =
          film_long t port offset b (checked_fine t port offset b y (checked_alike ∙ e))
          ∙ sym (film_long plain port offset b (checked_fine plain port offset b y e))
      go (Err r) e = refl
