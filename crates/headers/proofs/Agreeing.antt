-- What becomes of a frame hangs on its captured length and on its first 162 bytes alone: two lists that agree so far have one answer.
-- By the list of conditions: each is carried over, and back.
use Rattle.std.specs.Prelude.{◌≡◌, ◌++◌, ◌+◌, ◌≤◌, ◌<◌, Some, None}
use Rattle.laws.specs.Kit.{refl, sym, ap, ◌∙◌, List, ℕ, min, arith, length, take, drop, get_or, length-drop, length-append, get_or-append}
use lib.Seq.{ext_get_or, get_or-take, get_or-drop, length-take-le}
use Rattle.endian.specs.Number.{number_of, number_at}
use Rattle.headers.specs.Paper.{Handed, Internet, plain, tagged, HandedOn, on_at}
use Rattle.headers.specs.Step.{handed_of}
use Rattle.headers.proofs.Exactly.{handed_so, handed_only, skipped_so}

pub record Agree (n : ℕ) (b c : List ℕ) : Type 0 where
  pub left : min n 162 ≤ length b
  pub right : min n 162 ≤ length c
  pub same : (i : ℕ) → i < min n 162 → get_or b i 0 ≡ get_or c i 0

pub agree_back : {n : ℕ} {b c : List ℕ} → Agree n b c → Agree n c b
agree_back a = record { left = a.right; right = a.left; same = λ i h. sym (a.same i h) }

module _ {n : ℕ} {b c : List ℕ} (a : Agree n b c) where
  number_agree : (k i : ℕ) → i + k ≤ min n 162 → number_at k b i ≡ number_at k c i
  number_agree k i h =
      let long : length (take k (drop i b)) ≡ k = length-take-le k (drop i b) (rw length-drop (omega (arith, a.left))) in
      let other : length (take k (drop i c)) ≡ k = length-take-le k (drop i c) (rw length-drop (omega (arith, a.right))) in
      ap number_of
      (ext_get_or 0 (take k (drop i b)) (take k (drop i c)) (long ∙ sym other)
      (λ j q. rw (get_or-take k (drop i b) j 0 (omega arith), get_or-take k (drop i c) j 0 (omega arith), get_or-drop i b j 0, get_or-drop i c j 0)
      (a.same (i + j) (omega arith))))

  internet_agree : {ip : ℕ} → 14 ≤ n → Internet b n ip → Internet c n ip
  internet_agree h (plain e) = plain (sym (number_agree 2 12 (omega arith)) ∙ e)
  internet_agree h (tagged e k f) = tagged (sym (number_agree 2 12 (omega arith)) ∙ e) k (sym (number_agree 2 16 (omega arith)) ∙ f)

  near : {ip : ℕ} → Internet b n ip → ip ≤ 18
  near (plain e) = omega arith
  near (tagged e k f) = omega arith

  module _ {port ip udp rtp end : ℕ} (h : HandedOn b n port ip udp rtp end) where
    rtp_near : rtp ≤ 86
    rtp_near = omega (arith, near h.internet, h.udp_starts, h.rtp_starts)

    conditions_agree : HandedOn c n port ip udp rtp end
    conditions_agree =
        let at = near h.internet in
        let first = sym (a.same ip (omega (arith, h.ip_header))) in
        let udp_near : udp ≤ 78 = omega (arith, h.udp_starts) in
        let second = sym (a.same rtp (omega (arith, rtp_near, h.rtp_header))) in
        let pair = number_agree 2 in
        record {
          ethernet = h.ethernet;
          internet = internet_agree h.ethernet h.internet;
          ip_header = h.ip_header;
          version_4 = rw first h.version_4;
          words = rw first h.words;
          unfragmented = rw (← pair (ip + 6) (omega (arith, h.ip_header))) h.unfragmented;
          protocol = sym (a.same (ip + 9) (omega (arith, h.ip_header))) ∙ h.protocol;
          udp_starts = rw first h.udp_starts;
          udp_header = h.udp_header;
          to_port = rw (← pair (udp + 2) (omega (arith, h.udp_header))) h.to_port;
          rtp_starts = h.rtp_starts;
          rtp_header = h.rtp_header;
          version_2 = rw second h.version_2;
          contributors_end = rw second h.contributors_end;
          contributors = h.contributors;
          extension = λ e.
              let x = h.extension (rw second at e) in
              let end_near : end ≤ 158 = omega (arith, h.contributors_end, rtp_near) in
              (x.0, rw (← pair (end + 2) (omega (arith, x.0))) x.1);
        }

    on_agree : on_at b rtp ≡ on_at c rtp
    on_agree =
        rw (
          number_agree 4 (rtp + 4) (omega (arith, rtp_near, h.rtp_header)),
          a.same (rtp + 1) (omega (arith, rtp_near, h.rtp_header)),
        )

pub handed_agree : {n : ℕ} {b c : List ℕ} (port : ℕ) → Agree n b c → handed_of b n port ≡ handed_of c n port
handed_agree {n} {b} {c} port a = go (handed_of b n port) refl
  where
    go : (h : Handed) → handed_of b n port ≡ h → handed_of b n port ≡ handed_of c n port
    go (Some r) e =
        let all = handed_only b n port e in
        handed_so all ∙ on_agree a all ∙ sym (handed_so (conditions_agree a all))
    go None e =
        e
        ∙ sym
        (skipped_so c n port
        (λ ip udp rtp end h.
        let f = sym e ∙ handed_so (conditions_agree (agree_back a) h) in
        let z : ◌≡◌ {A = ℕ} 0 1 = cc in
        omega arith))

-- the first bytes of a frame, whatever follows them
pub front_agrees : {n : ℕ} (b v : List ℕ) → min n 162 ≤ length b → Agree n b (b ++ v)
front_agrees {n} b v h = record {
  left = h;
  right = omega (arith, length-append b v);
  same = λ i q. sym (get_or-append b v 0 i (omega arith));
}
