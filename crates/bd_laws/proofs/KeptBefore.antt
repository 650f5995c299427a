-- Objects stay as long as anything refers to them. What SpacesAreTidy knows of objects; the law itself is in Objects.
pub mod ObjectsKept
