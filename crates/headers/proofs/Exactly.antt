-- A frame is handed on exactly when all conditions of the list hold, and at most one set of places meets them. By the tests, one after the other.
use Rattle.std.specs.Prelude.{◌≡◌, ◌+◌, ◌-◌, ◌*◌, ◌/◌, ◌%◌, ◌≤◌, None}
use Rattle.laws.specs.Kit.{refl, sym, ap, ◌∙◌, Bool, true, false, List, ℕ, arith, le-leb, eq-eqb, eqb-true}
use Rattle.laws.specs.Choose.{pick}
use Rattle.laws.specs.Every.{after, All}
use Rattle.laws.proofs.Every.{◌and◌, facts, of_facts}
use Rattle.headers.specs.Paper.{byte_at, pair_at, ipv4, Internet, plain, tagged, HandedOn, on_at, on_with}
use Rattle.headers.specs.Step.{tagged_at, ip_at, udp_in, rtp_at, end_at, ether_fits, ip_fits, udp_fits, extension_fits, rtp_fits, fits, handed_of}
use Rattle.headers.proofs.Handing.{goes_on}

-- where the type says that IPv4 starts
internet_at : {b : List ℕ} {n ip : ℕ} → Internet b n ip → ip ≡ ip_at b
internet_at {b} (plain e) = rw e refl
internet_at {b} (tagged e h f) = rw e refl

internet_ether : {b : List ℕ} {n ip : ℕ} → 14 ≤ n → Internet b n ip → ether_fits b n ip ≡ true
unfolding ether_fits after
internet_ether {b} {n} h (plain e) = rw (le-leb 14 n h, eq-eqb (pair_at b 12) ipv4 e)
internet_ether {b} {n} h (tagged e k f) = rw (le-leb 18 n k, eq-eqb (pair_at b 16) ipv4 f)

pub ether_internet : (b : List ℕ) (n : ℕ) → ether_fits b n (ip_at b) ≡ true → Internet b n (ip_at b)
unfolding ether_fits
ether_internet b n f = go (tagged_at b) refl (facts _ f 0) (facts _ f 1)
  where
    go : (t : Bool) → tagged_at b ≡ t → pick t 18 14 ≤ n → pair_at b (pick t 18 14 - 2) ≡ ipv4 → Internet b n (pick t 18 14)
    go true e h k = tagged (eqb-true _ _ e) h k
    go false e h k = plain k

module _ {b : List ℕ} {n port ip udp rtp end : ℕ} (c : HandedOn b n port ip udp rtp end) where
  ip_so : ip_fits b n ip ≡ true
  unfolding ip_fits All
  ip_so = of_facts _ (c.ip_header and c.version_4 and c.words and omega (arith, c.unfragmented) and c.protocol and tt)

  udp_so : udp_fits b n udp port ≡ true
  unfolding udp_fits All
  udp_so = of_facts _ (c.udp_header and c.to_port and tt)

  extension_so : byte_at b rtp / 16 % 2 ≡ 1 → extension_fits b n end ≡ true
  unfolding extension_fits All
  extension_so x = of_facts _ ((c.extension x).0 and (c.extension x).1 and tt)

  rtp_so : rtp_fits b n rtp ≡ true
  unfolding rtp_fits All
  rtp_so =
      let ends = c.contributors_end in
      of_facts _
      (c.rtp_header and c.version_2 and rw ends at c.contributors and (λ x. rw ends at (extension_so x)) and tt)

  -- all hold: handed on, with what is read at rtp
  pub handed_so : handed_of b n port ≡ on_at b rtp
  handed_so =
      sym (goes_on b n port c.ethernet (internet_at c.internet) (internet_ether c.ethernet c.internet) ip_so c.udp_starts
      udp_so (rw c.rtp_starts at rtp_so))
      ∙ ap (on_at b) (sym c.rtp_starts)

extension_room : (b : List ℕ) (n end : ℕ) → extension_fits b n end ≡ true → (end + 4 ≤ n) × (end + 4 + 4 * pair_at b (end + 2) ≤ n)
unfolding extension_fits
extension_room b n end e = (facts _ e 0, facts _ e 1)

-- the tests passed: all hold
module _ (b : List ℕ) (n port : ℕ) where
  pub only_so : fits b n port ≡ true
      → HandedOn b n port (ip_at b) (udp_in b) (rtp_at (udp_in b)) (end_at b (rtp_at (udp_in b)))
  unfolding fits ip_fits udp_fits rtp_fits
  only_so f =
      let all = facts _ f in
      let i = facts _ (all 2) in
      let u = facts _ (all 3) in
      let r = facts _ (all 4) in
      record {
        ethernet = all 0;
        internet = ether_internet b n (all 1);
        ip_header = i 0;
        version_4 = i 1;
        words = i 2;
        unfragmented = i 3;
        protocol = i 4;
        udp_starts = refl;
        udp_header = u 0;
        to_port = u 1;
        rtp_starts = refl;
        rtp_header = r 0;
        version_2 = r 1;
        contributors_end = refl;
        contributors = r 2;
        extension = λ x. extension_room b n (end_at b (rtp_at (udp_in b))) (r 3 x);
      }

  -- no places meet the conditions: skipped
  pub skipped_so : ((ip udp rtp end : ℕ) → HandedOn b n port ip udp rtp end → ⊥) → handed_of b n port ≡ None
  unfolding handed_of
  skipped_so none = go (fits b n port) refl
    where
      go : (t : Bool) → fits b n port ≡ t → pick t (on_at b (rtp_at (udp_in b))) None ≡ None
      go true e = absurd (none _ _ _ _ (only_so e))
      go false e = refl

  -- handed on: all hold
  pub handed_only : {stamp marker : ℕ} → handed_of b n port ≡ on_with stamp marker
      → HandedOn b n port (ip_at b) (udp_in b) (rtp_at (udp_in b)) (end_at b (rtp_at (udp_in b)))
  unfolding handed_of
  handed_only {stamp} {marker} h = go (fits b n port) refl h
    where
      go : (t : Bool) → fits b n port ≡ t → pick t (on_at b (rtp_at (udp_in b))) None ≡ on_with stamp marker
          → HandedOn b n port (ip_at b) (udp_in b) (rtp_at (udp_in b)) (end_at b (rtp_at (udp_in b)))
      go true e q = only_so e
      go false e q = let z : ◌≡◌ {A = ℕ} 0 1 = cc in absurd (omega arith)
