-- The table of the library.
use Rattle.std.specs.Prelude.{ℕ, pos, negsuc, true, false, List, [], ◌∷◌, ◌++◌, map, codes, None}
use Rattle.jsh_tree.specs.declared.key.Signature.{Signature}
use Rattle.jsh_tree.specs.declared.expression.Literal.TheVariants as literal
use Rattle.jsh_tree.specs.declared.library.LibraryMethod.{LibraryMethod}
use Rattle.jsh_tree.specs.declared.library.LibraryType.{LibraryType}
use Rattle.jsh_tree.specs.declared.library.Library.{Library}
use Rattle.jsh_library.specs.declared.rows.Word.{Word}
use Rattle.jsh_library.specs.declared.rows.Word.TheVariants.{Int, Long, Char, Boolean, String, Object, Runnable}
use Rattle.jsh_library.specs.Rows.{method, void_method, static_method, constant, signature, written, class_row, final_row, throwable}

-- it has no superclass (JLS 4.3.2)
abbrev pub object : LibraryType
object = record (class_row (codes "Object") []) {
  extends = None;
  constructors = [] ∷ [];
  methods =
      method (codes "equals") (Object ∷ []) Boolean
      ∷ method (codes "toString") [] String
      ∷ [];
}

abbrev pub string : LibraryType
string = record (final_row (codes "String")) {
  methods =
      method (codes "length") [] Int
      ∷ method (codes "charAt") (Int ∷ []) Char
      ∷ method (codes "substring") (Int ∷ []) String
      ∷ method (codes "substring") (Int ∷ Int ∷ []) String
      ∷ method (codes "indexOf") (String ∷ []) Int
      ∷ method (codes "isEmpty") [] Boolean
      ∷ method (codes "equals") (Object ∷ []) Boolean
      ∷ method (codes "compareTo") (String ∷ []) Int
      ∷ method (codes "concat") (String ∷ []) String
      ∷ method (codes "toString") [] String
      ∷ static_method (codes "valueOf") (Int ∷ []) String
      ∷ static_method (codes "valueOf") (Long ∷ []) String
      ∷ static_method (codes "valueOf") (Char ∷ []) String
      ∷ static_method (codes "valueOf") (Boolean ∷ []) String
      ∷ static_method (codes "valueOf") (Object ∷ []) String
      ∷ [];
}

abbrev pub math : LibraryType
math = record (final_row (codes "Math")) {
  methods =
      static_method (codes "abs") (Int ∷ []) Int
      ∷ static_method (codes "abs") (Long ∷ []) Long
      ∷ static_method (codes "min") (Int ∷ Int ∷ []) Int
      ∷ static_method (codes "min") (Long ∷ Long ∷ []) Long
      ∷ static_method (codes "max") (Int ∷ Int ∷ []) Int
      ∷ static_method (codes "max") (Long ∷ Long ∷ []) Long
      ∷ static_method (codes "floorDiv") (Int ∷ Int ∷ []) Int
      ∷ static_method (codes "floorDiv") (Long ∷ Long ∷ []) Long
      ∷ static_method (codes "floorMod") (Int ∷ Int ∷ []) Int
      ∷ static_method (codes "floorMod") (Long ∷ Long ∷ []) Long
      ∷ [];
}

abbrev pub integer : LibraryType
integer = record (final_row (codes "Integer")) {
  methods =
      static_method (codes "parseInt") (String ∷ []) Int
      ∷ static_method (codes "toString") (Int ∷ []) String
      ∷ [];
  constants =
      constant (codes "MAX_VALUE") Int (literal.Int (pos 2147483647) false)
      ∷ constant (codes "MIN_VALUE") Int (literal.Int (negsuc 2147483647) false)
      ∷ [];
}

abbrev pub long : LibraryType
long = record (final_row (codes "Long")) {
  methods =
      static_method (codes "parseLong") (String ∷ []) Long
      ∷ static_method (codes "toString") (Long ∷ []) String
      ∷ [];
  constants =
      constant (codes "MAX_VALUE") Long (literal.Long (pos 9223372036854775807) false)
      ∷ constant (codes "MIN_VALUE") Long (literal.Long (negsuc 9223372036854775807) false)
      ∷ [];
}

-- its field `out` is no member here: what may be called on it stands in the table by itself
abbrev pub system : LibraryType
system = final_row (codes "System")

-- the one abstract method of the library
abbrev pub abstract_run : LibraryMethod
abstract_run = record { is_static = false; signature = record (signature (codes "run") [] None) { is_abstract = true } }

-- an interface is abstract (JLS 9.1.1.1), and so is its one method
abbrev pub runnable : LibraryType
runnable = record (class_row (codes "Runnable") []) {
  is_interface = true;
  is_abstract = true;
  extends = None;
  methods = abstract_run ∷ [];
}

abbrev pub thread : LibraryType
thread = record (class_row (codes "Thread") (codes "Object")) {
  implements = codes "Runnable" ∷ [];
  constructors = [] ∷ (written Runnable ∷ []) ∷ [];
  methods =
      void_method (codes "start") []
      ∷ void_method (codes "join") []
      ∷ method (codes "isAlive") [] Boolean
      ∷ void_method (codes "run") []
      ∷ [];
}

-- every throwable inherits its members (JLS 11.1.1)
abbrev pub throwable_itself : LibraryType
throwable_itself = record (throwable (codes "Throwable") (codes "Object")) {
  methods =
      method (codes "getMessage") [] String
      ∷ method (codes "toString") [] String
      ∷ [];
}

abbrev pub virtual_machine_error : LibraryType
virtual_machine_error = record (throwable (codes "VirtualMachineError") (codes "Error")) { is_abstract = true }

-- the methods of AtomicInteger and of AtomicLong, each for its own numbers
abbrev pub atomic_methods : Word → List LibraryMethod
atomic_methods number =
    method (codes "get") [] number
    ∷ void_method (codes "set") (number ∷ [])
    ∷ method (codes "incrementAndGet") [] number
    ∷ method (codes "decrementAndGet") [] number
    ∷ method (codes "getAndIncrement") [] number
    ∷ method (codes "getAndDecrement") [] number
    ∷ method (codes "addAndGet") (number ∷ []) number
    ∷ method (codes "getAndAdd") (number ∷ []) number
    ∷ method (codes "getAndSet") (number ∷ []) number
    ∷ method (codes "compareAndSet") (number ∷ number ∷ []) Boolean
    ∷ method (codes "toString") [] String
    ∷ []

abbrev pub atomic : List ℕ → Word → LibraryType
atomic name number = record (final_row name) {
  «package» = codes "java.util.concurrent.atomic";
  constructors = [] ∷ (written number ∷ []) ∷ [];
  methods = atomic_methods number;
}

abbrev pub basic_types : List LibraryType
basic_types = object ∷ string ∷ math ∷ integer ∷ long ∷ system ∷ runnable ∷ thread ∷ []

abbrev pub exceptions : List LibraryType
exceptions =
    throwable_itself
    ∷ throwable (codes "Exception") (codes "Throwable")
    ∷ throwable (codes "Error") (codes "Throwable")
    ∷ throwable (codes "RuntimeException") (codes "Exception")
    ∷ throwable (codes "InterruptedException") (codes "Exception")
    ∷ []

abbrev pub runtime_exceptions : List LibraryType
runtime_exceptions =
    throwable (codes "ArithmeticException") (codes "RuntimeException")
    ∷ throwable (codes "NullPointerException") (codes "RuntimeException")
    ∷ throwable (codes "ClassCastException") (codes "RuntimeException")
    ∷ throwable (codes "IndexOutOfBoundsException") (codes "RuntimeException")
    ∷ throwable (codes "NegativeArraySizeException") (codes "RuntimeException")
    ∷ throwable (codes "ArrayStoreException") (codes "RuntimeException")
    ∷ throwable (codes "IllegalArgumentException") (codes "RuntimeException")
    ∷ throwable (codes "IllegalStateException") (codes "RuntimeException")
    ∷ throwable (codes "UnsupportedOperationException") (codes "RuntimeException")
    ∷ []

abbrev pub special_throwables : List LibraryType
special_throwables =
    throwable (codes "ArrayIndexOutOfBoundsException") (codes "IndexOutOfBoundsException")
    ∷ throwable (codes "StringIndexOutOfBoundsException") (codes "IndexOutOfBoundsException")
    ∷ throwable (codes "NumberFormatException") (codes "IllegalArgumentException")
    ∷ throwable (codes "IllegalThreadStateException") (codes "IllegalArgumentException")
    ∷ virtual_machine_error
    ∷ throwable (codes "OutOfMemoryError") (codes "VirtualMachineError")
    ∷ throwable (codes "StackOverflowError") (codes "VirtualMachineError")
    ∷ []

abbrev pub atomic_types : List LibraryType
atomic_types = atomic (codes "AtomicInteger") Int ∷ atomic (codes "AtomicLong") Long ∷ []

-- what an import on demand may name
abbrev pub packages : List (List ℕ)
packages =
    codes "java.lang"
    ∷ codes "java.io"
    ∷ codes "java.math"
    ∷ codes "java.net"
    ∷ codes "java.nio.file"
    ∷ codes "java.util"
    ∷ codes "java.util.concurrent"
    ∷ codes "java.util.concurrent.atomic"
    ∷ codes "java.util.function"
    ∷ codes "java.util.prefs"
    ∷ codes "java.util.regex"
    ∷ codes "java.util.stream"
    ∷ []

-- a method of `System.out` for each type that it prints
abbrev pub printing : List ℕ → List Signature
printing name = map (λ word. signature name (word ∷ []) None) (Boolean ∷ Char ∷ Int ∷ Long ∷ String ∷ Object ∷ [])

-- what is called on `System.out`
abbrev pub out : List Signature
out = printing (codes "print") ++ printing (codes "println") ++ signature (codes "println") [] None ∷ []

-- the library
abbrev pub table : Library
table = record {
  packages = packages;
  types = basic_types ++ exceptions ++ runtime_exceptions ++ special_throwables ++ atomic_types;
  out = out;
}
