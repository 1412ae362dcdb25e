-- Searches for the ends of hard links by those that are known, and what is noted. All headers on
-- the way of a search have one end (`final_on`), so to note it with each keeps what is known true
-- (`one_more`); and the image gives the header at that end (`known_given`).
use Rattle.std.proofs.Common.{◌≡◌, ◌∙◌, sym, ap, subst, cond, ℕ, inl, inr, List, Some, Bool, true, false, refl, arith}
use Rattle.std.specs.Prelude.{nat_eq}
use Rattle.std.specs.Ordering.{nat_cmp, is_eq}
use Rattle.std.proofs.lemmas.Bool.{eqb-true}
use Rattle.std.proofs.lemmas.Bool.Decides.{nat_tests}
use Rattle.std.specs.BTreeMap.{BTreeMap, get}
use Rattle.romfs_format.specs.declared.head.Kind.TheVariants.{HardLink}
use Rattle.romfs_format.specs.declared.head.Head.{Head}
use Rattle.romfs_format.specs.Fields.{IsInside}
use Rattle.romfs_format.specs.Links.{IsHardLink, destination, IsFinal, stays, follows}
use Rattle.romfs_format.specs.Heads.{head_of}
use Rattle.romfs_format.proofs.Targets.{destination_link}
use Rattle.romfs_reader.specs.Images.{IsImage}
use Rattle.romfs_reader.specs.Readers.{IsGiven}
use Rattle.romfs_reader.specs.Ends.{AreEnds}
use Rattle.romfs_reader.proofs.Given.{From, from_inside, hard, hard_member, IsOnWay}

-- the end of a hard link is that of the header that it leads to
end_after : (a : List ℕ) {h e : ℕ} → IsHardLink a h → IsFinal a h e → IsFinal a (destination a h) e
end_after a l (stays n) = absurd (n l)
end_after a l (follows m f) = f

-- a walk from head has come to the header at, whose hard links end at e, and what is known is true
pub record IsNoting (a : List ℕ) (head at : Head) (e : ℕ) (ends : BTreeMap ℕ ℕ) : Type 0 where
  pub way : IsOnWay a head at
  pub final : IsFinal a at.offset e
  pub known : AreEnds a ends

tie : (j k : ℕ) → is_eq (nat_cmp j k) ≡ nat_eq j k
tie j k = grind (arith, nat_tests)

-- what is known stays true if one more header is noted with its end
pub one_more : (a : List ℕ) (ends ends' : BTreeMap ℕ ℕ) (h e : ℕ) → AreEnds a ends → IsFinal a h e
    → ((q : ℕ) → get nat_cmp ends' q ≡ cond (is_eq (nat_cmp h q)) (Some e) (get nat_cmp ends q))
    → AreEnds a ends'
one_more a ends ends' h e known f up = record {
  each = λ q g p. at q g (nat_eq h q) refl
      (ap (λ b. cond b (Some e) (get nat_cmp ends q)) (sym (tie h q)) ∙ sym (up q) ∙ p);
}
  where
    at : (q g : ℕ) (b : Bool) → nat_eq h q ≡ b → cond b (Some e) (get nat_cmp ends q) ≡ Some g → IsFinal a q g
    at q g true t p = (let s : e ≡ g = cc in subst (λ x. IsFinal a x g) (eqb-true h q t) (subst (IsFinal a h) s f))
    at q g false t p = known.each q g p

module _ (a : List ℕ) (i : IsImage a) (head at : Head) (g : IsGiven a head) (w : IsOnWay a head at) (k : at.kind ≡ HardLink) where
  hard_head : IsHardLink a head.offset
  hard_head = elim w.reached [
    | inl e ↦ subst (λ x. IsHardLink a x) e (hard a i head at w k)
    | inr d ↦ destination_link a d
  ]

  known_from : (e : ℕ) → IsFinal a at.offset e → From a e
  known_from e f = inr (inr (head.offset, hard_member a i head.offset g.from hard_head, w.on e f))

  -- the end of a hard link on the way lies in the image
  pub known_inside : (e : ℕ) → IsFinal a at.offset e → IsInside a e
  known_inside e f = from_inside a i e (known_from e f)

  -- the header at the end of a hard link on the way is given by the image
  pub known_given : (e : ℕ) (end : Head) → IsFinal a at.offset e → end ≡ head_of a e → IsGiven a end
  known_given e end f p = subst (λ x. IsGiven a x) (sym p) (record { is = refl; from = known_from e f })

  -- the end of a hard link on the way is the end of what it leads to, too
  pub final_on : (e : ℕ) → IsFinal a at.offset e → IsFinal a (destination a at.offset) e
  final_on e f = end_after a (hard a i head at w k) f
