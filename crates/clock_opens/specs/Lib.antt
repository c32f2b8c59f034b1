pub use Rattle.clock_releases.specs.Opens
