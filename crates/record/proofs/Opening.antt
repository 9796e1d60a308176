-- The check of a whole file from its first byte: what its head makes of it.
use Rattle.std.specs.Prelude.{◌≡◌, ◌<◌, Err}
use Rattle.laws.specs.Kit.{refl, sym, ap, subst, ◌∙◌, List, ℕ, arith, ℕ_discrete, drop, ne_eqb}
use Rattle.limits.specs.declared.Parameters.{Parameters}
use Rattle.limits.specs.declared.Profile.{Profile}
use Rattle.limits.specs.Paper.{set_up_refusal, edition_refusal, set_up_in}
use Rattle.limits.proofs.Editions.{in_first, in_edition, in_fine, edition_fine}
use Rattle.packet.specs.Step.{nothing, no_packets}
use Rattle.packet.proofs.Declared.{tally_declared}
use Rattle.record.specs.declared.Cursor.{Cursor}
use Rattle.record.specs.declared.FileNumbers.{FileNumbers}
use Rattle.refusal.specs.Told.{Numbered}
use Rattle.record.specs.Step.{HeadRead, head_ready, head_more}
use Rattle.record.specs.Paper.{head_bytes, Heading, heading, Ending, done, stopped, Packets, packets_in, ended_file, numbers_refusal}
use Rattle.record.specs.Step.{head_read}
use Rattle.record.specs.Walk.{numbers_of, as_checked, checked_of, finish_by, finish, checked_refused}
use Rattle.record.proofs.Saying.{Stood, SaysHead, head_says, reads_refused, reads_packets}

pub finish_checked : (h : Heading) (r : Packets)
    → finish (numbers_of h) no_packets r ≡ as_checked (ended_file h r.accepted r.ending)
finish_checked h r = go r.ending
  where
    go : (e : Ending) → finish_by (numbers_of h) no_packets r.accepted e ≡ as_checked (ended_file h r.accepted e)
    go done = rw (tally_declared r.accepted)
    go (stopped n o) = refl

module _ (edition : ℕ) (s : List ℕ) where
  -- of a whole file no more bytes are wanted
  pub head_never_more : head_more ≡ head_read s → ⊥
  head_never_more e = subst (SaysHead s) (sym e) (head_says s)

  -- and a head that is refused is the file's refusal
  pub head_stops : (r : Numbered) → Err r ≡ head_read s → Err r ≡ checked_of edition s
  unfolding checked_of
  head_stops r e = let w = subst (SaysHead s) (sym e) (head_says s) in rw w

  module _ {h : HeadRead} {version kind : ℕ} {parameters : Parameters} {c : Cursor} (r : h ≡ head_read s) (e : h ≡ head_ready version kind parameters c)
    where
      here : Stood s version kind parameters c
      here = subst (SaysHead s) (sym r ∙ e) (head_says s)

      -- what it sets up with
      module _ {set : FileNumbers} (q : set ≡ numbers_of (heading version kind parameters)) where
        abbrev numbers : Parameters
        numbers = set.parameters

        abbrev profile : Profile
        profile = set.profile

        -- its parameters are refused as those of the file are
        same_refusal : numbers_refusal (heading version kind parameters) ≡ set_up_refusal profile numbers
        same_refusal = sym (ap (λ (x : FileNumbers). set_up_refusal x.profile x.parameters) q)

        -- 1 to 7 by the file itself, 8 by what stands beside it
        own_refused : 0 < set_up_refusal profile numbers → checked_refused (set_up_in profile numbers edition) 1 ≡ checked_of edition s
        unfolding checked_of
        own_refused p =
            rw (in_first profile numbers edition p, reads_refused here (set_up_refusal profile numbers) same_refusal p)

        edition_refused : set_up_refusal profile numbers ≡ 0 → 0 < edition_refusal edition
            → checked_refused (set_up_in profile numbers edition) 1 ≡ checked_of edition s
        unfolding checked_of
        edition_refused f p =
            rw (in_edition profile numbers edition f, reads_packets here (same_refusal ∙ f), ne_eqb (edition_refusal edition) 0 (λ z. omega arith))

        pub opens_refused : (n : ℕ) → set_up_in profile numbers edition ≡ n → 0 < n → checked_refused n 1 ≡ checked_of edition s
        opens_refused n f p = rw (sym f) (go (ℕ_discrete (set_up_refusal profile numbers) 0))
          where
            go : Dec (set_up_refusal profile numbers ≡ 0) → checked_refused (set_up_in profile numbers edition) 1 ≡ checked_of edition s
            go (yes z) = edition_refused z (omega (arith, in_edition profile numbers edition z))
            go (no z) = own_refused (omega arith)

        pub opens_fine : set_up_in profile numbers edition ≡ 0
            → finish set no_packets (packets_in nothing c.at (drop c.at s)) ≡ checked_of edition s
        unfolding checked_of
        opens_fine f =
            let fine = in_fine profile numbers edition f in
            rw (reads_packets here (same_refusal ∙ fine.0), edition_fine edition fine.1, here.next_19)
            (ap (λ (x : FileNumbers). finish x no_packets (packets_in nothing head_bytes (drop head_bytes s))) q
            ∙ finish_checked (heading version kind parameters) (packets_in nothing head_bytes (drop head_bytes s)))
