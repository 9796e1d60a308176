-- The room that a header which fits has, and what becomes of a frame whose headers all fit.
use Rattle.std.specs.Prelude.{◌≡◌, ◌&&◌, ◌+◌, ◌≤◌, None}
use Rattle.laws.specs.Kit.{refl, true, List, ℕ, leb, le-leb}
use Rattle.laws.specs.Choose.{pick}
use Rattle.laws.specs.Every.{after}
use Rattle.laws.proofs.Every.{facts}
use Rattle.headers.specs.Paper.{on_at}
use Rattle.headers.specs.Step.{ip_at, udp_at, udp_in, rtp_at, ether_fits, ip_fits, udp_fits, rtp_fits, fits, handed_of}

pub ip_room : (b : List ℕ) (n ip : ℕ) → ip_fits b n ip ≡ true → ip + 20 ≤ n
unfolding ip_fits
ip_room b n ip e = facts _ e 0

pub rtp_room : (b : List ℕ) (n rtp : ℕ) → rtp_fits b n rtp ≡ true → rtp + 12 ≤ n
unfolding rtp_fits
rtp_room b n rtp e = facts _ e 0

-- what becomes of a frame, by the tests one after the other
pub handed_by : (b : List ℕ) (n port : ℕ) → handed_of b n port
    ≡ pick (leb 14 n && ether_fits b n (ip_at b) && ip_fits b n (ip_at b) && udp_fits b n (udp_in b) port
    && rtp_fits b n (rtp_at (udp_in b)))
    (on_at b (rtp_at (udp_in b))) None
unfolding handed_of fits after
handed_by b n port = refl

pub ruleset any_laws = (ip_room, rtp_room, handed_by)

-- a frame whose headers all fit is handed on
pub goes_on : (b : List ℕ) (n port : ℕ) {ip udp : ℕ} → 14 ≤ n → ip ≡ ip_at b → ether_fits b n ip ≡ true → ip_fits b n ip ≡ true
    → udp ≡ udp_at b ip → udp_fits b n udp port ≡ true → rtp_fits b n (udp + 8) ≡ true → on_at b (udp + 8) ≡ handed_of b n port
unfolding handed_of fits after
goes_on b n port h e ether internet u datagram f = rw (le-leb 14 n h, ← e, ether, internet, ← u, datagram, f)
