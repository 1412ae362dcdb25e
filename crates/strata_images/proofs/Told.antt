-- Bytes that a writer takes piece by piece. `begins`, `goes_on` and `is_front` are the loop, and
-- `then_more` puts two texts together.
use Rattle.std.proofs.Common.{◌≡◌, ◌∙◌, sym, ap, subst, ℕ, ◌-◌, List, [], ◌++◌, length, take, drop, Option, refl, append_assoc, append-nil, take-append-drop}
use Rattle.std.proofs.lemmas.List.{take_rest}
use Rattle.std.proofs.KnownBytes.{Appends-nil, Appends-trans, Appends-kept}
use Rattle.std.specs.Io.KnownBytes.{Appends, Keeps}
use Rattle.devices.specs.Pushing.{GainsFront}

-- some of the bytes are taken, and the rest is to come
pub record IsUnderWay (bytes rest done : List ℕ) (old now : Option (List ℕ)) : Type 0 where
  pub split : bytes ≡ done ++ rest
  pub held : Appends old now done

-- before the first write all is to come
pub begins : (bytes : List ℕ) (old : Option (List ℕ)) → IsUnderWay bytes bytes [] old old
begins bytes old = record { split = refl; held = Appends-nil old }

-- a write that takes some of what is to come leaves the rest
pub goes_on : (bytes rest done : List ℕ) (old mid new : Option (List ℕ)) (n : ℕ) → IsUnderWay bytes rest done old mid
    → Appends mid new (take n rest) → IsUnderWay bytes (take (length rest - n) (drop n rest)) (done ++ take n rest) old new
goes_on bytes rest done old mid new n u a = record {
  split =
      u.split
      ∙ ap (λ l. done ++ l) (sym (take-append-drop n rest))
      ∙ sym (append_assoc done (take n rest) (drop n rest))
      ∙ ap (λ l. (done ++ take n rest) ++ l) (sym (take_rest rest n));
  held = Appends-trans _ _ _ _ _ u.held a;
}

-- once nothing is to come all of them are taken
pub is_whole : (bytes rest done : List ℕ) (old now : Option (List ℕ)) → IsUnderWay bytes rest done old now → rest ≡ []
    → Appends old now bytes
is_whole bytes rest done old now u none =
    subst (Appends old now) (sym (u.split ∙ ap (λ l. done ++ l) none ∙ append-nil done)) u.held

-- what is taken are the first of them
pub is_front : (bytes rest done : List ℕ) (old now : Option (List ℕ)) → IsUnderWay bytes rest done old now → GainsFront bytes old now
is_front bytes rest done old now u = record { put = done; more = rest; front = u.split; gained = u.held }

-- all of the bytes are the first of them
pub whole_front : (bytes : List ℕ) (old new : Option (List ℕ)) → Appends old new bytes → GainsFront bytes old new
whole_front bytes old new a = record { put = bytes; more = []; front = sym (append-nil bytes); gained = a }

-- what is taken of a text is the first of it and more
pub front_more : (text more : List ℕ) (old new : Option (List ℕ)) → GainsFront text old new → GainsFront (text ++ more) old new
front_more text more old new f = record {
  put = f.put;
  more = f.more ++ more;
  front = ap (λ l. l ++ more) f.front ∙ append_assoc f.put f.more more;
  gained = f.gained;
}

-- a text, and then the first of more
pub then_more : (text more : List ℕ) (old mid new : Option (List ℕ)) → Appends old mid text → GainsFront more mid new
    → GainsFront (text ++ more) old new
then_more text more old mid new a f = record {
  put = text ++ f.put;
  more = f.more;
  front = ap (λ l. text ++ l) f.front ∙ sym (append_assoc text f.put f.more);
  gained = Appends-trans _ _ _ _ _ a f.gained;
}

-- what a kept writer gained before is what it gained
pub then_kept : (bytes : List ℕ) (old mid new : Option (List ℕ)) → GainsFront bytes old mid → Keeps mid new → GainsFront bytes old new
then_kept bytes old mid new f k = record { put = f.put; more = f.more; front = f.front; gained = Appends-kept _ _ _ _ f.gained k }

-- nothing is the first of any bytes
pub none_gained : (bytes : List ℕ) (old : Option (List ℕ)) → GainsFront bytes old old
none_gained bytes old = record { put = []; more = bytes; front = refl; gained = Appends-nil old }
