-- Which frames are handed on, in the request's words, condition by condition. `b` is a frame's bytes, `n` how many were captured; ip, udp,
-- rtp and end are where the headers start and where RTP's ends. This page is what a reader must believe of the headers.
use Rattle.std.specs.Prelude.{◌≡◌, ◌+◌, ◌*◌, ◌/◌, ◌%◌, ◌≤◌, Option, Some}
use Rattle.laws.specs.Kit.{List, ℕ, get_or}
use Rattle.endian.specs.Number.{number_at}
use Rattle.headers.specs.declared.Rtp.{Rtp}

-- a byte, and a number of two bytes, at a place; the highest byte stands first in every header
abbrev pub byte_at : List ℕ → ℕ → ℕ
byte_at b at = get_or b at 0

abbrev pub pair_at : List ℕ → ℕ → ℕ
pair_at b at = number_at 2 b at

-- the types of IPv4 and of a tag: 0800 and 8100
abbrev pub ipv4 : ℕ
ipv4 = 2048

abbrev pub tag : ℕ
tag = 33024

-- R4: "type 0800, or one tag of type 8100 and then 0800"
pub data Internet (b : List ℕ) (n : ℕ) : ℕ → Type 0 where
  plain : pair_at b 12 ≡ ipv4 → Internet b n 14
  tagged : pair_at b 12 ≡ tag → 18 ≤ n → pair_at b 16 ≡ ipv4 → Internet b n 18

-- R4, R5: "A frame is handed on exactly when all of these hold, all within its captured bytes"
pub record HandedOn (b : List ℕ) (n port ip udp rtp end : ℕ) : Type 0 where
  -- "Ethernet header; type 0800, or one tag of type 8100 and then 0800"
  pub ethernet : 14 ≤ n
  pub internet : Internet b n ip
  -- "IPv4 with version 4 and a header length of at least 5 words"
  pub ip_header : ip + 20 ≤ n
  pub version_4 : byte_at b ip / 16 ≡ 4
  pub words : 5 ≤ byte_at b ip % 16
  -- "more-fragments bit 0 and fragment offset 0"; the two bits above these are not looked at
  pub unfragmented : pair_at b (ip + 6) % 16384 ≡ 0
  pub protocol : byte_at b (ip + 9) ≡ 17
  -- "options inside; UDP header; destination port the given one"
  pub udp_starts : udp ≡ ip + 4 * (byte_at b ip % 16)
  pub udp_header : udp + 8 ≤ n
  pub to_port : pair_at b (udp + 2) ≡ port
  -- "RTP's 12 bytes; version 2; all contributors"
  pub rtp_starts : rtp ≡ udp + 8
  pub rtp_header : rtp + 12 ≤ n
  pub version_2 : byte_at b rtp / 64 ≡ 2
  pub contributors_end : end ≡ rtp + 12 + 4 * (byte_at b rtp % 16)
  pub contributors : end ≤ n
  -- "if the X bit is set, the extension's 4 bytes and all its words"
  pub extension : byte_at b rtp / 16 % 2 ≡ 1 → (end + 4 ≤ n) × (end + 4 + 4 * pair_at b (end + 2) ≤ n)

-- R4: what is handed on of a frame, or that it is skipped
abbrev pub Handed : Type 0
Handed = Option Rtp

abbrev pub on_with : ℕ → ℕ → Handed
on_with stamp marker = Some (record { stamp = stamp; marker = marker })

-- R6: "its timestamp and marker are RTP's"
abbrev pub on_at : List ℕ → ℕ → Handed
on_at b rtp = on_with (number_at 4 b (rtp + 4)) (byte_at b (rtp + 1) / 128)
