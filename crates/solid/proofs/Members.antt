-- What stands in a list.
--     has_none, has_here, has_there, has_either      in no list, at the front, behind it, and which of the two
--     has_left, has_right, has_part                  in an append, from a part and back
--     at_read, has_read                              what is read at a number
--     has_map, map_has                               in a list whose elements are changed
--     each_of                                        what holds of all in a list holds of each
use Rattle.std.proofs.Common.{◌≡◌, ℕ, zero, suc, ◌<◌, ◌⊎◌, List, [], ◌∷◌, ◌++◌, map, length, get_or, sym, refl, subst, inl, inr, arith}
use Rattle.std.proofs.lemmas.List.{get_or_default}
use Rattle.std.specs.List.{AllByRecursion}
use Rattle.solid.specs.Shapes.{At, Has}

module _ {A : Type 0} where
  pub has_none : (x : A) → Has [] x → ⊥
  has_none x h = let k = h.1.0 in omega arith

  pub has_here : (x : A) (xs : List A) → Has (x ∷ xs) x
  has_here x xs = (0, (omega arith, refl))

  pub has_there : (y x : A) (xs : List A) → Has xs x → Has (y ∷ xs) x
  has_there y x xs h = let k = h.1.0 in (suc h.0, (omega arith, h.1.1))

  -- at the front or behind it
  pub has_either : (y x : A) (xs : List A) → Has (y ∷ xs) x → (y ≡ x) ⊎ Has xs x
  has_either y x xs h = go h.0 h.1
    where
      go : (n : ℕ) → At (y ∷ xs) n x → (y ≡ x) ⊎ Has xs x
      go zero k = inl k.1
      go (suc n) k = let l = k.0 in inr (n, (omega arith, k.1))

  pub has_left : (x : A) (xs ys : List A) → Has xs x → Has (xs ++ ys) x
  has_left x [] ys h = absurd (has_none x h)
  has_left x (y ∷ xs) ys h = elim (has_either y x xs h) [ inl e ↦ subst (λ z. Has (z ∷ (xs ++ ys)) x) (sym e) (has_here x (xs ++ ys)) | inr k ↦ has_there y x (xs ++ ys) (has_left x xs ys k) ]

  pub has_right : (x : A) (xs ys : List A) → Has ys x → Has (xs ++ ys) x
  has_right x [] ys h = h
  has_right x (y ∷ xs) ys h = has_there y x (xs ++ ys) (has_right x xs ys h)

  pub has_part : (x : A) (xs ys : List A) → Has (xs ++ ys) x → Has xs x ⊎ Has ys x
  has_part x [] ys h = inr h
  has_part x (y ∷ xs) ys h = elim (has_either y x (xs ++ ys) h) [
    | inl e ↦ inl (subst (λ z. Has (z ∷ xs) x) (sym e) (has_here x xs))
    | inr k ↦ elim (has_part x xs ys k) [ inl l ↦ inl (has_there y x xs l) | inr r ↦ inr r ]
  ]

  -- what is read within a list stands in it
  pub at_read : (xs : List A) (n : ℕ) (d : A) → n < length xs → At xs n (get_or xs n d)
  at_read xs n d h = (h, get_or_default xs n (get_or xs n d) d h)

  pub has_read : (xs : List A) (n : ℕ) (d : A) → n < length xs → Has xs (get_or xs n d)
  has_read xs n d h = (n, at_read xs n d h)

module _ {A B : Type 0} (f : A → B) where
  pub has_map : (x : A) (xs : List A) → Has xs x → Has (map f xs) (f x)
  has_map x [] h = absurd (has_none x h)
  has_map x (y ∷ xs) h = elim (has_either y x xs h) [ inl e ↦ subst (λ z. Has (f z ∷ map f xs) (f x)) (sym e) (has_here (f x) (map f xs)) | inr k ↦ has_there (f y) (f x) (map f xs) (has_map x xs k) ]

  pub map_has : (y : B) (xs : List A) → Has (map f xs) y → (x : A) × Has xs x × (f x ≡ y)
  map_has y [] h = absurd (has_none y h)
  map_has y (z ∷ xs) h = elim (has_either (f z) y (map f xs) h) [
    | inl e ↦ (z, has_here z xs, e)
    | inr k ↦ let r = map_has y xs k in (r.0, has_there z r.0 xs r.1, r.2)
  ]

pub each_of : {A : Type 0} (P : A → Type 0) (xs : List A) → AllByRecursion P xs → (x : A) → Has xs x → P x
each_of P [] a x h = absurd (has_none x h)
each_of P (y ∷ xs) a x h = elim (has_either y x xs h) [ inl e ↦ subst P e a.0 | inr k ↦ each_of P xs a.1 x k ]
