-- The plain frame is handed on, with what is read behind the headers of IPv4 and UDP. By the list of conditions, whose places the tests fix.
use Rattle.std.specs.Prelude.{◌≡◌, ◌+◌, ◌-◌, ◌≤◌}
use Rattle.laws.specs.Kit.{refl, sym, true, List, ℕ, arith}
use Rattle.laws.specs.Every.{All}
use Rattle.laws.proofs.Every.{◌and◌, facts, of_facts}
use Rattle.headers.specs.Paper.{byte_at, pair_at, ipv4, Internet, HandedOn, on_at}
use Rattle.headers.specs.Step.{ip_at, ether_fits, plain_bytes, plain_fits, handed_of}
use Rattle.headers.proofs.Exactly.{ether_internet, handed_so}

module _ (b : List ℕ) (n port : ℕ) where
  pub plain_room : plain_fits b n port ≡ true → plain_bytes ≤ n
  unfolding plain_fits
  plain_room e = facts _ e 0

  plain_internet : ip_at b ≤ n → pair_at b (ip_at b - 2) ≡ ipv4 → Internet b n (ip_at b)
  unfolding ether_fits All
  plain_internet h e = ether_internet b n (of_facts _ (h and e and tt))

  plain_conditions : (ip : ℕ) → ip ≡ ip_at b → ip ≤ 18 → plain_fits b n port ≡ true
      → HandedOn b n port ip (ip + 20) (ip + 20 + 8) (ip + 20 + 8 + 12)
  unfolding plain_fits
  plain_conditions ip at near e =
      let all = facts _ (rw (← at) at e) in
      let room : plain_bytes ≤ n = all 0 in
      let inside : ip_at b ≤ n = omega (arith, room, near, at) in
      let five : byte_at b ip ≡ 69 = all 2 in
      let alone : byte_at b (ip + 20 + 8) ≡ 128 = all 6 in
      record {
        ethernet = omega (arith, room);
        internet = rw at (plain_internet inside (rw at at (all 1)));
        ip_header = omega (arith, room, near);
        version_4 = rw five refl;
        words = rw five (omega arith);
        unfragmented = all 3;
        protocol = all 4;
        udp_starts = rw five refl;
        udp_header = omega (arith, room, near);
        to_port = all 5;
        rtp_starts = refl;
        rtp_header = omega (arith, room, near);
        version_2 = rw alone refl;
        contributors_end = rw alone (omega arith);
        contributors = omega (arith, room, near);
        extension = λ x. absurd (omega (arith, rw alone at x));
      }

  pub plain_handed : {ip : ℕ} → ip ≡ ip_at b → ip ≤ 18 → plain_fits b n port ≡ true → on_at b (ip + 20 + 8) ≡ handed_of b n port
  plain_handed {ip} at near e = sym (handed_so (plain_conditions ip at near e))
