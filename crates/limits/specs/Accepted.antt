-- What it means that set-up refuses nothing: each of the seven numbers is in its place, said with no test and no list. Both ways: proofs/Accepting.antt.
use Rattle.std.specs.Prelude.{◌≡◌, ◌⊎◌, ◌*◌, ◌%◌, ◌≤◌, ◌<◌}
use Rattle.laws.specs.Kit.{true, ℕ}
use Rattle.limits.specs.declared.Parameters.{Parameters}
use Rattle.limits.specs.declared.Profile.{Profile}
use Rattle.limits.specs.Paper.{microsecond, frame_length, sender_class, all_ones, periods, has_default}
use Rattle.limits.specs.Paper.{class_fits}

-- the codes of the table of rates
abbrev pub KnownRate : ℕ → Type 0
KnownRate code = (1 ≤ code) × (code ≤ 8)

-- S11: the editions of the test plan
abbrev pub KnownEdition : ℕ → Type 0
KnownEdition edition = (1 ≤ edition) × (edition ≤ 2)

pub record Accepted (profile : Profile) (p : Parameters) : Type 0 where
  pub rate_known : KnownRate p.rate
  pub schedule_known : p.schedule ≤ 1
  pub class_fits_schedule : class_fits (sender_class p) p.schedule ≡ true
  pub height_fits : (1 ≤ p.height) × (p.height ≤ 65535)
  pub n_fits : (1 ≤ p.n) × (p.n ≤ 20000)
  pub n_whole : p.n % periods profile ≡ 0
  pub maxudp_is_known : (p.maxudp ≡ 1460) ⊎ (p.maxudp ≡ 8960)
  pub tro_fits_period : ((has_default profile ≡ true) × (p.tro ≡ all_ones)) ⊎ (periods profile * (microsecond * p.tro) < frame_length p.rate)
