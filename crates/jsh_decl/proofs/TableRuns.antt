-- Symbols behind symbols, and the tokens that stand for them.
use Rattle.std.proofs.Common.{◌≡◌, ℕ, List, [], ◌∷◌, ◌++◌, refl, sym, ap, ◌∙◌, subst, append_assoc}
use Rattle.jsh_tree.specs.declared.token.Token.{Token}
use Rattle.jsh_tree.specs.declared.token.TokenKind.TheVariants as token
use Rattle.jsh_grammar.specs.Productions.{Part, Symbol}
use Rattle.jsh_grammar.specs.Productions as table
use Rattle.jsh_parse.proofs.TableSymbols.{AreSymbols, none, one, among, in_part, in_deep}

-- tokens that stand for symbols, and those behind them for others
pub joined : {Known : Token → Type 0} {Is : Part → ℕ → List Token → Type 0} {room : ℕ} {p q : List Symbol} {l r : List Token} →
    AreSymbols Known Is room p l → AreSymbols Known Is room q r → AreSymbols Known Is room (p ++ q) (l ++ r)
joined none after = after
joined (one t same known rest) after = one t same known (joined rest after)
joined (among t passes known rest) after = among t passes known (joined rest after)
joined {Known = Known} {Is = Is} {room = room} {q = q} {r = r} (in_part {n = n} {rest = p} {l = l} {r = m} is rest) after =
    subst (λ (ts : List Token). AreSymbols Known Is room (table.part n ∷ (p ++ q)) ts) (sym (append_assoc l m r)) (in_part is (joined rest after))
joined {Known = Known} {Is = Is} {room = room} {q = q} {r = r} (in_deep {n = n} {rest = p} {l = l} {r = m} is rest) after =
    subst (λ (ts : List Token). AreSymbols Known Is room (table.deep n ∷ (p ++ q)) ts) (sym (append_assoc l m r)) (in_deep is (joined rest after))

-- the tokens of symbols, and those of others behind them
pub record AreTwo (Known : Token → Type 0) (Is : Part → ℕ → List Token → Type 0) (room : ℕ) (p q : List Symbol) (ts : List Token) : Type 0 where
  pub front : List Token
  pub back : List Token
  pub parts : ts ≡ front ++ back
  pub first : AreSymbols Known Is room p front
  pub second : AreSymbols Known Is room q back

pub divided : {Known : Token → Type 0} {Is : Part → ℕ → List Token → Type 0} {room : ℕ} {ts : List Token} (p q : List Symbol) →
    AreSymbols Known Is room (p ++ q) ts → AreTwo Known Is room p q ts
divided [] q s = record { front = []; back = _; parts = refl; first = none; second = s }
divided (table.a k ∷ p) q (one t same known rest) =
    let two = divided p q rest in
    let whole = two.parts in
    record { front = t ∷ two.front; back = two.back; parts = cc; first = one t same known two.first; second = two.second }
divided (table.any test ∷ p) q (among t passes known rest) =
    let two = divided p q rest in
    let whole = two.parts in
    record { front = t ∷ two.front; back = two.back; parts = cc; first = among t passes known two.first; second = two.second }
divided (table.part n ∷ p) q (in_part {l = l} is rest) =
    let two = divided p q rest in
    record {
      front = l ++ two.front;
      back = two.back;
      parts = ap (λ m. l ++ m) two.parts ∙ sym (append_assoc l two.front two.back);
      first = in_part is two.first;
      second = two.second;
    }
divided (table.deep n ∷ p) q (in_deep {l = l} is rest) =
    let two = divided p q rest in
    record {
      front = l ++ two.front;
      back = two.back;
      parts = ap (λ m. l ++ m) two.parts ∙ sym (append_assoc l two.front two.back);
      first = in_deep is two.first;
      second = two.second;
    }

-- the symbols of a method that ends in these
abbrev pub method_symbols : List Symbol → List Symbol
method_symbols body =
    table.part table.result ∷ table.a token.Identifier ∷ table.part table.parameters ∷ table.part (table.names_behind token.Throws) ∷ body
