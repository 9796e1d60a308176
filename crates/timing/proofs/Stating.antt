-- Stream numbers and how they are stated are the same both ways; and what is stated is refused by 22, and then as set-up refuses. By the kind.
use Rattle.std.specs.Prelude.{◌≡◌, ◌↔◌, ◌<◌}
use Rattle.laws.specs.Kit.{refl, ap, ◌∙◌, true, false, ℕ, arith, ℕ_discrete}
use Rattle.laws.proofs.Choose.{neither, second, before}
use Rattle.limits.specs.declared.Parameters.{Parameters}
use Rattle.limits.specs.declared.Profile.{Profile}
use Rattle.limits.specs.declared.Profile.TheVariants.{Video, Compressed}
use Rattle.limits.specs.Paper.{is_profile, profile_of, profile_refusal, packets_fit, tro_fits, set_up_refusal, set_up_in}
use Rattle.limits.proofs.Profiles.{chosen, is_chosen, profile_known, profile_fine, profile_22}
use Rattle.limits.proofs.Editions.{at_most_8}
use Rattle.timing.specs.declared.StreamNumbers.{StreamNumbers}
use Rattle.timing.specs.declared.Stated.{Stated}
use Rattle.timing.specs.Step.{stream_with, set_up_of, stated_of, stated_as, stated_refusal, rules_of}

-- S12: what was stated of stream numbers states them
pub stated_back : (x : StreamNumbers) → stated_of (stated_as x) ≡ x
stated_back x = ap (λ (p : Profile). stream_with p x.edition x.parameters) (chosen x.profile)

-- S12, N2: and is refused as they are
pub stated_as_lem : (x : StreamNumbers) → stated_refusal (stated_as x) ≡ set_up_of x
unfolding stated_refusal
stated_as_lem x = second _ _ (profile_known _ (is_chosen x.profile)) ∙ ap set_up_of (stated_back x)

-- S12: set-up asks alike of video and compressed
pub same_refusal : (e : ℕ) (p : Parameters) → set_up_of (stream_with Compressed e p) ≡ set_up_of (stream_with Video e p)
unfolding set_up_in set_up_refusal packets_fit tro_fits
same_refusal e p = refl

-- S12, S13: and the limits ask no profile
pub same_limits : (profile : Profile) (e : ℕ) (p : Parameters) → let q = rules_of (stream_with profile e p) in
    let v = rules_of (stream_with Video e p) in
    (q.limit ≡ v.limit) × (q.drains ≡ v.drains) × (q.plan.full ≡ v.plan.full) × (q.plan.tro ≡ v.plan.tro)
    × (q.plan.reads ≡ v.plan.reads)
unfolding rules_of
same_limits profile e p = (refl, refl, refl, refl, refl)

module _ (t : Stated) where
  -- where its kind stands for a profile, it is refused as set-up refuses
  pub stated_known : is_profile t.kind ≡ true → stated_refusal t ≡ set_up_of (stated_of t)
  unfolding stated_refusal
  stated_known k = second _ _ (profile_known t.kind k)

  pub stated_fine : stated_refusal t ≡ 0 → (is_profile t.kind ≡ true) × (set_up_of (stated_of t) ≡ 0)
  unfolding stated_refusal
  stated_fine e =
      let both = neither (profile_refusal t.kind) (set_up_of (stated_of t)) e in
      (profile_fine t.kind both.0, both.1)

  -- N1, S12: 22 comes before 1 to 8, exactly where the kind stands for none
  pub stated_22 : (stated_refusal t ≡ 22) ↔ (is_profile t.kind ≡ false)
  unfolding stated_refusal
  stated_22 = (
    λ e. (profile_22 t.kind).0 (first e (ℕ_discrete (profile_refusal t.kind) 0)),
    λ k. before _ _ (omega (arith, (profile_22 t.kind).1 k)) ∙ (profile_22 t.kind).1 k,
  )
    where
      first : stated_refusal t ≡ 22 → Dec (profile_refusal t.kind ≡ 0) → profile_refusal t.kind ≡ 22
      first e (yes z) =
          let most = at_most_8 (profile_of t.kind) t.parameters t.edition in
          absurd (omega (arith, second (profile_refusal t.kind) (set_up_of (stated_of t)) z, most, e))
      first e (no n) =
          let some : 0 < profile_refusal t.kind = omega arith in
          omega (arith, before (profile_refusal t.kind) (set_up_of (stated_of t)) some, e)
