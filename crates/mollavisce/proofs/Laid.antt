-- Two copies, one after the other, leave the two lists and the rest.
use mathlib.Core.Path.{◌≡◌, ◌∙◌}
use mathlib.Core.List.{List, ◌++◌, append_assoc, append-nil}
use Prim.Native.Nat.{ℕ, ◌≤◌}
use native.Mathlib.Omega.{arith}
use lib.ListN.{length, take, drop, length-take, drop_of_length-le}
use lib.Seq.{take-length, take_at, drop_at, drop-drop}

module _ (head ring strip first second : List ℕ) (six : length head ≡ 6) (places : length ring ≡ 32)
    (one : first ≡ take (length head) head ++ drop (length head) strip)
    (two : second ≡ take (length ring) ring ++ drop (length ring) (take 32 (drop 6 first))) where
  first_is : first ≡ head ++ drop 6 strip
  first_is = one ∙ rw (take-length, six)

  second_is : second ≡ ring
  second_is =
      let k : length (take 32 (drop 6 first)) ≤ length ring = simp length-take (omega arith) in
      two ∙ rw (take-length, drop_of_length-le (take 32 (drop 6 first)) k, append-nil)

  pub laid : take 6 first ++ (second ++ drop 32 (drop 6 first)) ≡ (head ++ ring) ++ drop 38 strip
  laid = rw (first_is, second_is, take_at head _ 6 six, drop_at head _ 6 six, drop-drop, append_assoc)
