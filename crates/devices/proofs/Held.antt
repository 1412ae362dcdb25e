-- Each part of bytes that are held may be given (held_may).
use Rattle.std.proofs.Common.{◌≡◌, ◌∙◌, sym, ap, ℕ, List, length, take, drop}
use Rattle.std.proofs.lemmas.List.{length-take, take_min}
use Rattle.devices.specs.Sources.{MayGive, held}

pub take_self : (n : ℕ) (xs : List ℕ) → take n xs ≡ take (length (take n xs)) xs
take_self n xs = sym (ap (λ k. take k xs) (length-take n xs) ∙ take_min n xs)

pub held_may : (xs : List ℕ) (place n : ℕ) → MayGive (held xs) place (take n (drop place xs))
held_may xs place n = take_self n (drop place xs)
