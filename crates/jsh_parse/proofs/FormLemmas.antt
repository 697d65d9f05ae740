-- Which token has passed a test for one of a statement, and which begins a form of one.
use Rattle.std.proofs.Common.{◌≡◌, true, List, ◌⊎◌, inl, inr, refl}
use Rattle.jsh_tree.specs.declared.token.Token.{Token}
use Rattle.jsh_tree.specs.declared.token.TokenKind.{TokenKind}
use Rattle.jsh_tree.specs.declared.token.TokenKind.TheVariants as token
use Rattle.jsh_parse.specs.declared.forms.Form.{Form}
use Rattle.jsh_parse.specs.declared.forms.Form.TheVariants as form
use Rattle.jsh_parse.specs.Forms.{form_of, is_semicolon, is_assign, is_else, is_while, is_final, is_var, is_case, is_default, is_minus, is_catch, is_case_value}
use Rattle.jsh_parse.specs.Reader.{Read}
use Rattle.jsh_parse.proofs.Gives.{Gives}

pub semicolon : (k : TokenKind) → is_semicolon k ≡ true → k ≡ token.Semicolon
semicolon token.Semicolon h = refl
semicolon _ h = cc

pub assign : (k : TokenKind) → is_assign k ≡ true → k ≡ token.Assign
assign token.Assign h = refl
assign _ h = cc

pub else_word : (k : TokenKind) → is_else k ≡ true → k ≡ token.Else
else_word token.Else h = refl
else_word _ h = cc

pub while_word : (k : TokenKind) → is_while k ≡ true → k ≡ token.While
while_word token.While h = refl
while_word _ h = cc

pub final_word : (k : TokenKind) → is_final k ≡ true → k ≡ token.Final
final_word token.Final h = refl
final_word _ h = cc

pub var_word : (k : TokenKind) → is_var k ≡ true → k ≡ token.Var
var_word token.Var h = refl
var_word _ h = cc

pub case_word : (k : TokenKind) → is_case k ≡ true → k ≡ token.Case
case_word token.Case h = refl
case_word _ h = cc

pub default_word : (k : TokenKind) → is_default k ≡ true → k ≡ token.Default
default_word token.Default h = refl
default_word _ h = cc

pub minus : (k : TokenKind) → is_minus k ≡ true → k ≡ token.Minus
minus token.Minus h = refl
minus _ h = cc

pub catch_word : (k : TokenKind) → is_catch k ≡ true → k ≡ token.Catch
catch_word token.Catch h = refl
catch_word _ h = cc

pub case_value : (k : TokenKind) → is_case_value k ≡ true → (k ≡ token.IntLiteral) ⊎ (k ≡ token.CharLiteral)
case_value token.IntLiteral h = inl refl
case_value token.CharLiteral h = inr refl
case_value _ h = cc

-- ---- what a form begins with

pub empty_form : (k : TokenKind) → form_of k ≡ form.Empty → k ≡ token.Semicolon
empty_form token.Semicolon h = refl
empty_form _ h = cc

pub if_form : (k : TokenKind) → form_of k ≡ form.If → k ≡ token.If
if_form token.If h = refl
if_form _ h = cc

pub while_form : (k : TokenKind) → form_of k ≡ form.While → k ≡ token.While
while_form token.While h = refl
while_form _ h = cc

pub do_form : (k : TokenKind) → form_of k ≡ form.Do → k ≡ token.Do
do_form token.Do h = refl
do_form _ h = cc

pub for_form : (k : TokenKind) → form_of k ≡ form.For → k ≡ token.For
for_form token.For h = refl
for_form _ h = cc

pub switch_form : (k : TokenKind) → form_of k ≡ form.Switch → k ≡ token.Switch
switch_form token.Switch h = refl
switch_form _ h = cc

pub break_form : (k : TokenKind) → form_of k ≡ form.Break → k ≡ token.Break
break_form token.Break h = refl
break_form _ h = cc

pub continue_form : (k : TokenKind) → form_of k ≡ form.Continue → k ≡ token.Continue
continue_form token.Continue h = refl
continue_form _ h = cc

pub return_form : (k : TokenKind) → form_of k ≡ form.Return → k ≡ token.Return
return_form token.Return h = refl
return_form _ h = cc

pub throw_form : (k : TokenKind) → form_of k ≡ form.Throw → k ≡ token.Throw
throw_form token.Throw h = refl
throw_form _ h = cc

pub try_form : (k : TokenKind) → form_of k ≡ form.Try → k ≡ token.Try
try_form token.Try h = refl
try_form _ h = cc

-- ---- by the form
pub by_form : {A : Type 0} {P : A → List Token → Type 0} (f : Form) (r0 r1 r2 r3 r4 r5 r6 r7 r8 r9 r10 r11 r12 : Read A) →
    (f ≡ form.Block → Gives P r0) →
    (f ≡ form.Empty → Gives P r1) →
    (f ≡ form.If → Gives P r2) →
    (f ≡ form.While → Gives P r3) →
    (f ≡ form.Do → Gives P r4) →
    (f ≡ form.For → Gives P r5) →
    (f ≡ form.Switch → Gives P r6) →
    (f ≡ form.Break → Gives P r7) →
    (f ≡ form.Continue → Gives P r8) →
    (f ≡ form.Return → Gives P r9) →
    (f ≡ form.Throw → Gives P r10) →
    (f ≡ form.Try → Gives P r11) →
    (f ≡ form.Expression → Gives P r12) →
    Gives P (elim f [ form.Block ↦ r0 | form.Empty ↦ r1 | form.If ↦ r2 | form.While ↦ r3 | form.Do ↦ r4 | form.For ↦ r5 | form.Switch ↦ r6 | form.Break ↦ r7 | form.Continue ↦ r8 | form.Return ↦ r9 | form.Throw ↦ r10 | form.Try ↦ r11 | form.Expression ↦ r12 ])
by_form form.Block _ _ _ _ _ _ _ _ _ _ _ _ _ g _ _ _ _ _ _ _ _ _ _ _ _ = g refl
by_form form.Empty _ _ _ _ _ _ _ _ _ _ _ _ _ _ g _ _ _ _ _ _ _ _ _ _ _ = g refl
by_form form.If _ _ _ _ _ _ _ _ _ _ _ _ _ _ _ g _ _ _ _ _ _ _ _ _ _ = g refl
by_form form.While _ _ _ _ _ _ _ _ _ _ _ _ _ _ _ _ g _ _ _ _ _ _ _ _ _ = g refl
by_form form.Do _ _ _ _ _ _ _ _ _ _ _ _ _ _ _ _ _ g _ _ _ _ _ _ _ _ = g refl
by_form form.For _ _ _ _ _ _ _ _ _ _ _ _ _ _ _ _ _ _ g _ _ _ _ _ _ _ = g refl
by_form form.Switch _ _ _ _ _ _ _ _ _ _ _ _ _ _ _ _ _ _ _ g _ _ _ _ _ _ = g refl
by_form form.Break _ _ _ _ _ _ _ _ _ _ _ _ _ _ _ _ _ _ _ _ g _ _ _ _ _ = g refl
by_form form.Continue _ _ _ _ _ _ _ _ _ _ _ _ _ _ _ _ _ _ _ _ _ g _ _ _ _ = g refl
by_form form.Return _ _ _ _ _ _ _ _ _ _ _ _ _ _ _ _ _ _ _ _ _ _ g _ _ _ = g refl
by_form form.Throw _ _ _ _ _ _ _ _ _ _ _ _ _ _ _ _ _ _ _ _ _ _ _ g _ _ = g refl
by_form form.Try _ _ _ _ _ _ _ _ _ _ _ _ _ _ _ _ _ _ _ _ _ _ _ _ g _ = g refl
by_form form.Expression _ _ _ _ _ _ _ _ _ _ _ _ _ _ _ _ _ _ _ _ _ _ _ _ _ g = g refl
