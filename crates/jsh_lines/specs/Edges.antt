-- What is left of a text without the characters at its ends that don't count there.
use Rattle.std.specs.Prelude.{ℕ, Bool, ◌||◌, ◌==◌, List, reverse}
use Rattle.jsh_tree.specs.Text.{is_white}
use Rattle.jsh_lex.specs.Chars.{drop_while}
use Rattle.jsh_lines.specs.declared.edge.Edge.{Edge}
use Rattle.jsh_lines.specs.declared.edge.Edge.TheVariants.{White, Blank, BlankOrReturn}

-- space and tab
abbrev pub is_space : ℕ → Bool
is_space c = c == 32 || c == 9

-- the characters that don't count at an end
abbrev pub is_outer : Edge → ℕ → Bool
is_outer White c = is_white c
is_outer Blank c = is_space c
is_outer BlankOrReturn c = is_space c || c == 13

-- the text from its first character that counts
abbrev pub behind_front : Edge → List ℕ → List ℕ
behind_front edge text = drop_while (is_outer edge) text

-- the text up to its last character that counts
abbrev pub before_back : Edge → List ℕ → List ℕ
before_back edge text = reverse (drop_while (is_outer edge) (reverse text))
