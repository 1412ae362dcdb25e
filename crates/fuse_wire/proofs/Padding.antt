-- The zeros after a name. The code takes them from eight zeros, or writes eight and cuts them, or sets a name with zeros up to 24 bytes and
-- cuts these; all leave the zeros of the definition (`padding_is`, `cut_to`, `cut_name`).
use Rattle.std.proofs.Common.{◌≡◌, ◌∙◌, sym, ap, ℕ, zero, suc, ◌+◌, ◌-◌, ◌≤◌, List, ◌∷◌, ◌++◌, length, take, append_assoc, refl, arith}
use Rattle.std.proofs.Math.Seq.{take-append-add}
use Rattle.std.specs.Prelude.{replicate}
use Rattle.fuse_wire.specs.Structures.{zeros}

take_copies : (n m k : ℕ) → n ≤ m → take n (replicate m k) ≡ replicate n k
take_copies zero m k l = refl
take_copies (suc n) zero k l = absurd (omega arith)
take_copies (suc n) (suc m) k l = ap (λ v. k ∷ v) (take_copies n m k (omega arith))

-- at most 8 zeros, as they are taken from 8
pub padding_is : (n : ℕ) → n ≤ 8 → take n (replicate 8 0) ≡ zeros n
unfolding zeros
padding_is n l = take_copies n 8 0 l

-- eight zeros after a list, cut to n
pub cut_to : (xs : List ℕ) (n : ℕ) → n ≤ 8 → take (length xs + n) (xs ++ replicate 8 0) ≡ xs ++ zeros n
cut_to xs n l = take-append-add xs (replicate 8 0) n ∙ ap (λ v. xs ++ v) (padding_is n l)

copies_joined : (a b m k : ℕ) → m ≡ a + b → replicate a k ++ replicate b k ≡ replicate m k
copies_joined zero b m k e = let same : b ≡ m = omega arith in ap (λ n. replicate n k) same
copies_joined (suc a) b zero k e = absurd (omega arith)
copies_joined (suc a) b (suc m) k e = ap (λ v. k ∷ v) (copies_joined a b m k (omega arith))

-- a name with zeros up to 24 bytes, cut to n zeros
pub cut_name : (front name : List ℕ) (n : ℕ) → length name ≤ 22 → length name + n ≤ 24
    → take (length front + (length name + n)) (front ++ (name ++ zeros (22 - length name)) ++ zeros 2) ≡ front ++ name ++ zeros n
unfolding zeros
cut_name front name n short l =
    let a = 22 - length name in
    let joined : replicate a 0 ++ replicate 2 0 ≡ replicate (a + 2) 0 = copies_joined a 2 (a + 2) 0 refl in
    let parts : front ++ (name ++ replicate a 0) ++ replicate 2 0 ≡ front ++ (name ++ replicate (a + 2) 0) =
    append_assoc front (name ++ replicate a 0) (replicate 2 0)
    ∙ ap (λ v. front ++ v) (append_assoc name (replicate a 0) (replicate 2 0) ∙ ap (λ v. name ++ v) joined) in
    ap (take (length front + (length name + n))) parts
    ∙ take-append-add front (name ++ replicate (a + 2) 0) (length name + n)
    ∙ ap (λ v. front ++ v) (take-append-add name (replicate (a + 2) 0) n ∙ ap (λ v. name ++ v) (take_copies n (a + 2) 0 (omega arith)))
    ∙ sym (append_assoc front name (replicate n 0))
