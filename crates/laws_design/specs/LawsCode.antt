pub use Rattle.laws_code.specs.Bodies as Bodies
