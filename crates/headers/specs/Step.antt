-- The same as tests, header by header: what the contracts cite. The tests of length ask n, so that b need not show the whole frame.
use Rattle.std.specs.Prelude.{◌∷◌, ◌+◌, ◌-◌, ◌*◌, ◌/◌, ◌%◌, ◌≤◌, None}
use Rattle.laws.specs.Kit.{Bool, List, [], ℕ, min, eqb, length}
use Rattle.laws.specs.Choose.{pick}
use Rattle.laws.specs.Every.{at_most, same, is, where_so, every}
use Rattle.headers.specs.Paper.{Handed, byte_at, pair_at, ipv4, tag, on_at}

-- R4: a tag's type, and where IPv4 starts: its own type stands in the two bytes before, behind a tag or not
abbrev pub tagged_at : List ℕ → Bool
tagged_at b = eqb (pair_at b 12) tag

abbrev pub ip_at : List ℕ → ℕ
ip_at b = pick (tagged_at b) 18 14

unfoldable pub ether_fits : List ℕ → ℕ → ℕ → Bool
ether_fits b n ip = every (at_most ip n ∷ same (pair_at b (ip - 2)) ipv4 ∷ [])

abbrev pub words_at : List ℕ → ℕ → ℕ
words_at b ip = byte_at b ip % 16

-- R4: the more-fragments bit and the fragment offset are the lowest 14 bits, the rest by this
abbrev pub fragment : ℕ
fragment = 16384

unfoldable pub ip_fits : List ℕ → ℕ → ℕ → Bool
ip_fits b n ip =
    every
    (at_most (ip + 20) n
    ∷ same (byte_at b ip / 16) 4
    ∷ at_most 5 (words_at b ip)
    ∷ same (pair_at b (ip + 6) % fragment) 0
    ∷ same (byte_at b (ip + 9)) 17
    ∷ [])

abbrev pub udp_at : List ℕ → ℕ → ℕ
udp_at b ip = ip + 4 * words_at b ip

unfoldable pub udp_fits : List ℕ → ℕ → ℕ → ℕ → Bool
udp_fits b n udp port = every (at_most (udp + 8) n ∷ same (pair_at b (udp + 2)) port ∷ [])

abbrev pub rtp_at : ℕ → ℕ
rtp_at udp = udp + 8

abbrev pub end_at : List ℕ → ℕ → ℕ
end_at b rtp = rtp + 12 + 4 * (byte_at b rtp % 16)

-- 65,535 words are 262,140 bytes
unfoldable pub extension_fits : List ℕ → ℕ → ℕ → Bool
extension_fits b n end = every (at_most (end + 4) n ∷ at_most (end + 4 + 4 * pair_at b (end + 2)) n ∷ [])

-- R4: "RTP's 12 bytes"
abbrev pub rtp_bytes : ℕ
rtp_bytes = 12

unfoldable pub rtp_fits : List ℕ → ℕ → ℕ → Bool
rtp_fits b n rtp =
    every
    (at_most (rtp + rtp_bytes) n
    ∷ same (byte_at b rtp / 64) 2
    ∷ at_most (end_at b rtp) n
    ∷ where_so (same (byte_at b rtp / 16 % 2) 1) (is (extension_fits b n (end_at b rtp)))
    ∷ [])

abbrev pub udp_in : List ℕ → ℕ
udp_in b = udp_at b (ip_at b)

-- all of them
unfoldable pub fits : List ℕ → ℕ → ℕ → Bool
fits b n port =
    every
    (at_most 14 n
    ∷ is (ether_fits b n (ip_at b))
    ∷ is (ip_fits b n (ip_at b))
    ∷ is (udp_fits b n (udp_in b) port)
    ∷ is (rtp_fits b n (rtp_at (udp_in b)))
    ∷ [])

-- R4: all hold of a frame without options, padding, extension or contributors: its headers end within 58 bytes, a tag's 4 among them
abbrev pub plain_bytes : ℕ
plain_bytes = 58

unfoldable pub plain_fits : List ℕ → ℕ → ℕ → Bool
plain_fits b n port =
    let ip = ip_at b in
    every
    (at_most plain_bytes n
    ∷ same (pair_at b (ip - 2)) ipv4
    ∷ same (byte_at b ip) 69
    ∷ same (pair_at b (ip + 6) % fragment) 0
    ∷ same (byte_at b (ip + 9)) 17
    ∷ same (pair_at b (ip + 20 + 2)) port
    ∷ same (byte_at b (ip + 20 + 8)) 128
    ∷ [])

-- R4, R7: what becomes of a frame
unfoldable pub handed_of : List ℕ → ℕ → ℕ → Handed
handed_of b n port = pick (fits b n port) (on_at b (rtp_at (udp_in b))) None

-- R14: the bytes that a frame of n captured bytes must show: 14 + 4 + 60 + 8 + 12 + 60 + 4 at most are read
abbrev pub matter : ℕ
matter = 162

pub record Shown (b : List ℕ) (n : ℕ) : Type 0 where
  pub shown : min n matter ≤ length b

-- and a header's place in it
pub record Placed (b : List ℕ) (n at bound : ℕ) : Type 0 where
  pub shown : min n matter ≤ length b
  pub near : at ≤ bound
