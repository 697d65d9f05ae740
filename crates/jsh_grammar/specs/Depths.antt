-- How deep each token of a derivation stands.
use Rattle.std.specs.Prelude.{ℕ, suc, ◌≤◌, List, [], ◌∷◌, ◌++◌, Option, All, slice_get}
use Rattle.jsh_tree.specs.declared.token.TokenKind.{TokenKind}
use Rattle.jsh_grammar.specs.Productions.{Symbol}
use Rattle.jsh_grammar.specs.Fronts.{Derives, nothing, token_of, token_among, whole_part, whole_deep}

-- The depth of each token, in their order. The number is the depth of what the symbols stand in: its own tokens have it,
-- so have those of a part in it, and those of a deep part are one deeper.
abbrev pub depths : {room : ℕ} {ss : List Symbol} {ks : List TokenKind} → ℕ → Derives room ss ks → List ℕ
depths depth nothing = []
depths depth (token_of d) = depth ∷ depths depth d
depths depth (token_among is d) = depth ∷ depths depth d
depths depth (whole_part is d e) = depths depth d ++ depths depth e
depths depth (whole_deep is d e) = depths (suc depth) d ++ depths depth e

-- the depth of the token at this place, if there is one, where the symbols themselves stand in nothing
abbrev pub depth_at : {room : ℕ} {ss : List Symbol} {ks : List TokenKind} → Derives room ss ks → ℕ → Option ℕ
depth_at d place = slice_get (depths 0 d) place

-- each of the depths is at most the limit
abbrev pub NoneDeeper : ℕ → List ℕ → Type 0
NoneDeeper limit ds = All (λ depth. depth ≤ limit) ds
