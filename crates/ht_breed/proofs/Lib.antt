pub mod SensitizedLaws
